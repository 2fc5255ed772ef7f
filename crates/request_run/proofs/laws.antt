-- Laws of a whole run, from its definition alone.
pub mod Room
