mod Lists
mod Sorting
mod Weights
mod Expiring
pub mod Tries
pub mod Settled
pub mod Soundness
pub mod Answered
pub mod Early
pub mod Waiting
mod Looks
mod Idle
mod Asked
mod Answering
pub mod CallerLemmas
pub mod Going
mod Buffers
mod Doing
mod Resumes
mod Tracking
mod Marks
mod WaitingRequests
