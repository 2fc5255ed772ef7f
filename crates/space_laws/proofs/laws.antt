-- Laws of the calls of a space, from their definitions alone.
pub mod CheckRights
pub mod Determined
pub mod Elsewhere
pub mod Finding
pub mod Holding
pub mod Meaning
pub mod Refused
pub mod Shapes
pub mod Sound
pub mod Told
pub mod Unchanged
pub mod Values
pub mod Ways
