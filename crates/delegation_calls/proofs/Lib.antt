-- What the proofs of `delegation_calls` share.
pub mod Offering
