-- What several proofs of `registry` share, and the laws of a collection, which crates above take.
pub mod Holding
pub mod Naming
pub mod Counting
pub mod CollectionLaws
