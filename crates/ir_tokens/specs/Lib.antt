pub mod Bytes
pub mod Names
pub mod Tokens
pub mod Front
