pub mod Ended
pub mod Groups
