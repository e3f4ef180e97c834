pub mod Layouts
pub mod Places
pub mod Wrapped
pub mod Loops
pub mod Fits
pub mod Fitting
pub mod Alike
