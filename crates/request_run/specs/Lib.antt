-- What the contracts of `request_run` cite.
pub mod Run
pub mod RunLaws
pub mod ByRecord
