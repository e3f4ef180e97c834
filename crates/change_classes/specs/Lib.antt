pub mod First
pub mod Keyed
