-- Laws of a record's call and of a whole run, from their definitions alone.
pub mod Sound
pub mod BadField
