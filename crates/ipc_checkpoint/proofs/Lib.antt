-- Lemmas on the objects of a checkpoint, and on the images that hold one.
pub mod CallerLemmas
mod Keeping
mod Loads
mod Putting
mod Saves
mod Tables
