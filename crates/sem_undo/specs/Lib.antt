pub mod Rows
pub mod Undo
