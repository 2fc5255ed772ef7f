-- Laws of a table that belong to no one function, and the laws of the turns of its loops.
pub mod laws
pub mod CodeSlots
pub mod CodeWalk
pub mod CodeRebuild
pub mod CodeInsert
pub mod CodeCopy
