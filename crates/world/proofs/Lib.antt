-- What several proofs of `world` share, and those of `world_look` take too; OpenTold is for crates above.
pub mod Tests
pub mod Starts
pub mod Opening
pub mod OpenTold
