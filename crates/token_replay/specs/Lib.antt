-- What the contracts of `token_replay` cite.
pub mod Line
