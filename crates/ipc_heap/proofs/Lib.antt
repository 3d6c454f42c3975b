-- Lemmas on the words and the sectors of a heap, and on the images that hold one.
pub mod CallerLemmas
mod Changes
mod Damages
mod Distinct
mod Edits
mod Flips
mod Images
mod Meanwhile
mod Opened
mod Opens
mod Parts
mod Placed
mod Roots
mod Runs
mod Saved
mod Sectors
mod Stands
mod Writes
