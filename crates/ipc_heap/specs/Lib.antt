pub mod Heap
pub mod Damage
pub mod View
pub mod Matches
pub mod Meanwhile
pub mod Relations
