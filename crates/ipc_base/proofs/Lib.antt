mod ObjectLists
mod Numbers
mod FieldLists
mod Rising
pub mod Puts
pub mod CallerLemmas
