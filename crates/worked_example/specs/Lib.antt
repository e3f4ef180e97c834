pub mod Codes
pub mod Example
