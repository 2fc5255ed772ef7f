-- What the contracts of `cascade` cite.
pub mod Cascade
