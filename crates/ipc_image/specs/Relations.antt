-- What joins the readers of saved objects to the definitions. A reader of the definitions alone needs none of it.
pub mod Restored
pub mod Shapes
pub mod Trees
pub mod Entries
pub mod Named
pub mod Shms
pub mod Mqs
pub mod Adjustments
pub mod Superblocks
pub mod Marked
