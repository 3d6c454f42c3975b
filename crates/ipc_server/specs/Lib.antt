-- What the contracts of a server cite.
pub mod Acts
pub mod Fault
pub mod Runs
pub mod Rounds
pub mod Rest
pub mod Rows
pub mod Served
pub mod Streams
pub mod Turns
pub mod View
