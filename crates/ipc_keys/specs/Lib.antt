pub mod Directory
pub mod Names
