pub mod Exits
pub mod Repeating
