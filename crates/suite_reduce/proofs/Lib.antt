pub mod Ranges
pub mod MoreLines
pub mod Letters
pub mod Choosing
pub mod Words
pub mod Finding
pub mod Scanning
pub mod OneReduced
