pub mod CallerLemmas
pub mod Trials
mod Lacking
mod Named
