-- Document 01, "Table of a space (001)", as definitions over the words that hold the slots: home, walks, rebuild, placing, removing and
-- copying. Lookup, quota, generation and holders are in the crates above.
pub mod Slots
pub mod Walk
pub mod Insert
pub mod Copy
pub mod Sound
