pub mod Places
pub mod Short
pub mod Order
pub mod Keeping
pub mod Reading
pub mod Tables
