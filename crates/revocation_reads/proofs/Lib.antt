-- What the proofs of `revocation_reads` share.
pub mod Listing
