-- What the contracts of `token` cite.
pub mod Bits
pub mod BitsLaws
pub mod Flags
pub mod FlagsLaws
pub mod Rights
pub mod RightsLaws
pub mod Token
pub mod TokenLaws
