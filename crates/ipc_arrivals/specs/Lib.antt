pub mod Arrivals
pub mod Index
