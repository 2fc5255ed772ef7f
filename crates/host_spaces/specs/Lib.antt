-- What the contracts of `host_spaces` cite beside those of the crates that it exports.
pub mod Worlds
pub mod Spaces
