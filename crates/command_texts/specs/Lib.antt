pub mod Accepted
pub mod Alone
pub mod Groups
