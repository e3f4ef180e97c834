pub mod Words
pub mod Known
pub mod Rows
pub mod Asks
