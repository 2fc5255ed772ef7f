-- Calls, histories of them, and what is promised of every history.
pub mod Call
pub mod Perform
pub mod Counts
pub mod Walks
pub mod Promises
