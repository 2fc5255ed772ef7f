-- Laws of a space, from the definitions alone.
pub mod Calls
pub mod Copied
pub mod Counted
pub mod Held
pub mod Insert
pub mod Kept
pub mod Lookup
pub mod Tests
pub mod Uses
pub mod View
