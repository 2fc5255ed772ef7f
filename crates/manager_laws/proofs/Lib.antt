-- What is promised of the calls of the manager.
pub mod laws
