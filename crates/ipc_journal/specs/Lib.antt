-- What a journal on a disk means, what the value that stands for it shows, and when the two match.
pub mod Batch
pub mod Headed
pub mod Journal
pub mod Matches
pub mod Meanwhile
pub mod Reader
pub mod Tagged
pub mod View
