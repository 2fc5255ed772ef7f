-- What the contracts of `host_replies` cite beside those of the crates below, and the laws by which the exports that answer so are proved.
pub mod Replies
pub mod RepliesLaws
