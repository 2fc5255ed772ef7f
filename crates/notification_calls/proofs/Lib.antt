-- What the proofs of `notification_calls` share.
pub mod Noticing
pub mod Counting
