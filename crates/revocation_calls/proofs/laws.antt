-- Laws of a revocation, from its definition alone, that the code's proofs take too.
pub mod RevokingWays
pub mod Kept
pub mod Each
