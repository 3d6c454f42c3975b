pub mod Remembered
pub mod Remembering
pub mod Visits
