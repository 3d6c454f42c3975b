pub mod Bits
pub mod Operation
pub mod Set
pub mod Trial
