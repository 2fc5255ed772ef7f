-- What the contracts of `revocation_reads` cite.
pub mod Calls
