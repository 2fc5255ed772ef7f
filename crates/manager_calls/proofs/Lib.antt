-- What the proofs of `manager_calls` share, and those of `delegation_calls`.
pub mod Admitting
pub mod Listing
