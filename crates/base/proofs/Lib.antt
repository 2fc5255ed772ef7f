-- Laws of `base` beside those of specs/.
pub mod ShiftTurns
