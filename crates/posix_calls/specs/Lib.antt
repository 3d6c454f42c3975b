pub mod Open
pub mod Mq
pub mod Psem
pub mod Pshm
pub mod Calls
pub mod Registrations
pub mod Needs
pub mod Seen
