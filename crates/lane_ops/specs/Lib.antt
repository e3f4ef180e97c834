pub mod Lane
pub mod Mask
