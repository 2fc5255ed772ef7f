-- What the proofs of `revocation_calls` share.
pub mod laws
