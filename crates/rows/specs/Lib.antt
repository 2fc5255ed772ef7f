-- Document 01, "Table rows to prove (P)": P1 to P9, each a claim about the definitions that the contracts cite, and the list of them.
pub mod Claims
pub mod TableRows
pub mod IdRow
pub mod StreamRow
pub mod Rows
