-- What joins the code of the disks to the definitions. A reader of the definitions alone needs none of it.
pub mod Runs
pub mod Slots
