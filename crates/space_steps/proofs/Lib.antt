-- What the proofs of `space_steps` share.
pub mod Copying
