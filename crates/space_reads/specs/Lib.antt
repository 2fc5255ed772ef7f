-- What the calls that read a space answer and leave.
pub mod Replies
pub mod Calls
