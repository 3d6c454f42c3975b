pub mod PairNumbers
pub mod SixNumbers
pub mod Rows
pub mod Frames
pub mod Read
pub mod Spellings
pub mod Streams
pub mod CallerLemmas
