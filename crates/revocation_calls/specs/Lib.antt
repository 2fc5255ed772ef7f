-- What the contracts of `revocation_calls` cite.
pub mod Revoking
pub mod Calls
