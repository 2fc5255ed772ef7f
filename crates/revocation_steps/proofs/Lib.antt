-- What the proofs of `revocation_steps` share, and what those of the calls above it take.
pub mod laws
pub mod AtQueues
pub mod Notifying
pub mod Pairs
