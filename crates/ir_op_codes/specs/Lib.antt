pub mod Alone
pub mod Paths
pub mod Words
pub mod Settings
