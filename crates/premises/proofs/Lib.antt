pub mod Living
pub mod Sectors
pub mod Visiting
