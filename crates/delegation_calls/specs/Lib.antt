-- What the contracts of `delegation_calls` cite.
pub mod Delegation
pub mod Offer
