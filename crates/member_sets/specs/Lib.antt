pub mod Members
pub mod Marks
pub mod Filed
pub mod Planes
pub mod Seen
