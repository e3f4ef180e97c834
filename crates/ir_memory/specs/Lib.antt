pub mod Inits
pub mod Places
