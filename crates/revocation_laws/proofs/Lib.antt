-- What is promised of the calls of revocation and of those for notifications.
pub mod laws
