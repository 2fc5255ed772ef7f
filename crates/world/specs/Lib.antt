-- The lent memory: its numbers, its regions, its opening and its soundness.
pub mod Numbers
pub mod Regions
pub mod Layout
pub mod Views
pub mod Each
pub mod Open
pub mod Opened
pub mod Sound
pub mod OpenedSound
pub mod SoundLaws
pub mod Lent
