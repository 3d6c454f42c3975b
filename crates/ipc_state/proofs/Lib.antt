pub mod CallerLemmas
pub mod Numbering
mod Counting
mod Places
mod EntryKeys
mod Binding
mod SoundQueues
mod SoundSets
mod SoundMqs
mod SoundOpening
mod Detaching
mod Changes
mod Elsewhere
mod Ending
mod Directories
mod Ready
mod Reserved
mod Lent
mod Adjusting
mod Clearing
mod Few
mod Attachments
mod Inside
mod Opening
mod Steps
mod Walks
mod Weighing
mod Demands
