pub mod Equal
pub mod Written
mod Taken
