-- What joins the code of the store to the definitions. A reader of the definitions alone needs none of it.
pub mod Batch
pub mod Format
pub mod Larger
pub mod Loading
pub mod Look
pub mod Matches
pub mod Replay
pub mod Upgrade
