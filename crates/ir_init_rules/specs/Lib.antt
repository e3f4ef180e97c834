pub mod Same
pub mod Levels
pub mod Fits
