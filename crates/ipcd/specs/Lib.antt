pub mod Check
pub mod Clock
pub mod Device
pub mod Ending
