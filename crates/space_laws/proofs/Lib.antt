-- What is promised of the calls of a space.
pub mod laws
