-- Lemmas on the disks in memory, and on runs of calls of any disk.
pub mod CallerLemmas
mod Choices
mod Listed
mod Pieces
mod RunsLemmas
mod SlotsLemmas
