pub mod Ports
pub mod Spots
pub mod Operands
pub mod Plain
pub mod Running
pub mod Filled
