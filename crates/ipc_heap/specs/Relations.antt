-- What joins the code to the definitions. A reader of the definitions alone needs none of it.
pub mod Flip
pub mod Found
pub mod Opening
pub mod Parts
pub mod Root
pub mod Table
pub mod Uses
pub mod Words
