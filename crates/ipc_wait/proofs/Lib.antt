pub mod CallerLemmas
pub mod Due
pub mod Index
pub mod Lists
