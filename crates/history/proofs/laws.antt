-- Laws of every call, and of histories of them.
pub mod Opening
pub mod Kept
pub mod Answers
pub mod ShortWalks
pub mod VisitsAnswered
pub mod SpacePaid
pub mod Paid
pub mod SpaceMoves
pub mod CreateMoves
pub mod DelegateMoves
pub mod RevocationMoves
pub mod Moves
pub mod SpaceIds
pub mod RevocationIds
pub mod Ids
