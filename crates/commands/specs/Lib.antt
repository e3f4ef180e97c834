pub mod Alone
pub mod Run
pub mod Groups
pub mod Files
pub mod Plans
pub mod Number
pub mod Page
