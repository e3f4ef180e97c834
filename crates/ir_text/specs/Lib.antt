pub mod Spelling
pub mod Parts
pub mod Lines
pub mod Texts
pub mod Printing
pub mod ReadBack
