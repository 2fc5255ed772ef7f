-- What the contracts of `request` cite.
pub mod Record
pub mod Op
pub mod Reading
pub mod ReadingLaws
pub mod Made
pub mod Laid
pub mod Lines
pub mod LinesLaws
