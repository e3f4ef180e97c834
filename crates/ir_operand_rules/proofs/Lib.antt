pub mod Any
pub mod Splits
