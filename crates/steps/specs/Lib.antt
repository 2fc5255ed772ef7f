-- What the contracts of `steps` cite.
pub mod Enter
pub mod Ready
pub mod Steps
pub mod Replies
