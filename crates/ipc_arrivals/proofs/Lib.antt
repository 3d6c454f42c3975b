pub mod CallerLemmas
pub mod Finding
pub mod Kept
pub mod Marks
pub mod Permutations
pub mod Ranks
pub mod Rising
