-- How large a device must be, what its superblock says, and how events and a state stand on it.
pub mod Shape
pub mod Format
pub mod Kind
pub mod Saved
pub mod Changed
pub mod Sizes
pub mod Superblock
pub mod Records
pub mod Relations
pub mod RecordParts
pub mod Window
pub mod SavedParts
pub mod Greater
