-- What the contracts of `host` cite beside those of the crates that it exports.
pub mod Manager
pub mod Revocation
