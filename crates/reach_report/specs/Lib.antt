pub mod Reach
pub mod Pass
pub mod Least
