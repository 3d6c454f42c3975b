pub mod Going
pub mod Parting
pub mod Showing
pub mod Standing
pub mod Streaming
pub mod Talking
pub mod Telling
pub mod Turning
