pub mod Alone
pub mod Numbers
pub mod Ports
pub mod Sources
