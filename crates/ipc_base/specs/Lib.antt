pub mod Adjustment
pub mod Errno
pub mod Fields
pub mod Numbers
pub mod Objects
pub mod ObjectRows
pub mod Table
