pub mod Fits
pub mod Globals
