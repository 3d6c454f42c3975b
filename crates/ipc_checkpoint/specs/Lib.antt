-- What a checkpoint on a disk means, what the value that stands for it shows, and when the two match.
pub mod Checkpoint
pub mod Matches
pub mod Meanwhile
pub mod Saving
pub mod View
