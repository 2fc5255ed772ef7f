-- The proof of specs/Rows.antt.
pub mod Unfolded
pub mod Rows
