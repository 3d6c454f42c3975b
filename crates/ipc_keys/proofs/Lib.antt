pub mod Directories
pub mod Entries
