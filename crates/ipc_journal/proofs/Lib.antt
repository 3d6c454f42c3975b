-- Lemmas on sectors of images, and on what a journal's images hold.
pub mod CallerLemmas
mod Cleared
mod Headers
mod Mixed
mod Parts
mod TagPieces
mod Tags
