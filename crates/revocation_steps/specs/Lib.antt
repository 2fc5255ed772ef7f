-- What the contracts of `revocation_steps` cite.
pub mod Revocation
