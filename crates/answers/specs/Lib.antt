-- What the contracts of `answers` cite.
pub mod Answer
pub mod Number
pub mod NumberLaws
