pub mod Lists
pub mod Structures
pub mod Parts
pub mod Elements
