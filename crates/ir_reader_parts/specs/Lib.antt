pub mod Ignored
pub mod Alone
