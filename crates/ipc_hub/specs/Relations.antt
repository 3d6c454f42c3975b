-- What joins the code to the definitions. A reader of the definitions alone needs none of it.
pub mod Rows
pub mod Lends
pub mod Delivery
pub mod Matches
pub mod Faults
pub mod Invariant
pub mod Requests
