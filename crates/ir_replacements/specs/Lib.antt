pub mod Labels
pub mod Breaks
pub mod Shapes
pub mod Places
pub mod Prepared
