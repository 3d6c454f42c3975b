mod Picked
pub mod Bytes
pub mod CallerLemmas
pub mod Lists
pub mod Picks
pub mod Ranks
