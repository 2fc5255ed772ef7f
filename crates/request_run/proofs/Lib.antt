-- What the proofs of `request_run` share.
pub mod laws
