-- What the calls that change a space answer and leave.
pub mod Calls
