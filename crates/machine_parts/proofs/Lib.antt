pub mod Equal
pub mod Taken
pub mod Written
