-- What clauses of this crate, and of those above it, speak of.
pub mod Calls
pub mod Counts
pub mod Crash
pub mod File
pub mod Fuse
pub mod Growth
pub mod Joined
pub mod Medium
pub mod Memory
pub mod Once
pub mod Range
pub mod Relations
pub mod Run
pub mod Runs
pub mod Since
pub mod Slots
pub mod Standing
