pub mod InstrEqual
pub mod Lists
pub mod Tables
pub mod Added
pub mod Lookups
