-- What the proofs of `world_look` share.
pub mod Looking
