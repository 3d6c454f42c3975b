-- Lemmas on sizes, on numbers side by side, and on records.
mod Formats
mod AtLeast
mod Bounds
mod Numbers
mod Slices
mod Reading
mod RestoredParts
mod Attaching
mod Entries
mod ReadLists
mod ReadKinds
mod WholeState
mod EventRecords
pub mod CallerLemmas
mod Windows
mod SavedObjects
mod Marks
mod MqObjects
mod KindSizes
mod ShmObjects
mod LaterObjects
mod LaterSizes
mod AdjustmentLists
mod WaitingCalls
mod WaitingSizes
mod Fits
mod Unchanged
