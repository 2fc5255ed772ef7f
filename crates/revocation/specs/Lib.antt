-- Document 01's rules of the revocation log and the notification queues, as definitions over their own words.
pub mod Words
pub mod Sound
pub mod SoundLaws
pub mod Log
pub mod LogLaws
pub mod Queue
pub mod Reason
pub mod QueueLaws
pub mod NoticesLaws
