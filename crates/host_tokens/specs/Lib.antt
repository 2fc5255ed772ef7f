-- What the contracts of `host_tokens` cite beside those of `token`, and the law by which some of them are proved.
pub mod Answered
pub mod BothLaws
