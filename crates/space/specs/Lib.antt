-- Document 01's rules of one space, as definitions over the space's own words.
pub mod Words
pub mod Sound
pub mod Lookup
pub mod Counters
pub mod Change
pub mod Copy
pub mod Ids
