pub mod Relations
pub mod Waits
