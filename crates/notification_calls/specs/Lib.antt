-- What the contracts of `notification_calls` cite.
pub mod Calls
