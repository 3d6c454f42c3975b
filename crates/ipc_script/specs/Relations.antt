-- What joins the code to the definitions. A reader of the definitions alone needs none of it.
pub mod Lasts
pub mod Lines
pub mod Input
pub mod Faults
pub mod Numbers
pub mod Matches
pub mod Report
pub mod Pieces
pub mod Simulation
pub mod Columns
