-- Laws of a space that belong to no one function, and the laws that close the proofs of several.
pub mod laws
pub mod Lent
pub mod CodeFind
pub mod CodeSound
pub mod CodeChange
