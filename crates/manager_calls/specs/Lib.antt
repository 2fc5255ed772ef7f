-- What the contracts of `manager_calls` cite.
pub mod Tokens
pub mod Admit
pub mod Calls
