pub mod Segment
pub mod SysSegment
