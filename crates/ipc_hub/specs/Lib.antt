pub mod Hub
pub mod Clients
pub mod Unmarked
pub mod Lives
pub mod Replies
pub mod View
pub mod Relations
