-- Laws of the steps of a revocation, from the definitions alone: each keeps a sound memory sound, and what a cascade leaves.
pub mod SameHoldings
pub mod LogSteps
pub mod QueueSteps
pub mod SameQueues
pub mod NoticeSteps
pub mod NoticesSent
pub mod Cascade
pub mod CascadeSteps
pub mod QueuesReadyKept
pub mod CascadeNotices
pub mod Revoked
