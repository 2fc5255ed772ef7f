-- What the proofs of `steps` share, and what those of the steps and calls above it take.
pub mod laws
pub mod Entering
pub mod Lending
pub mod ChangingEntries
pub mod Leaving
