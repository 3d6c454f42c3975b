mod Alike
pub mod CallerLemmas
mod Debts
mod Ending
mod Reaching
mod Trying
