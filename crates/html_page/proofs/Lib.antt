pub mod Escapes
pub mod Thousands
pub mod More
pub mod Rows
