-- The proofs of specs/Promises.antt, and the laws that they stand on.
pub mod laws
pub mod Promises
