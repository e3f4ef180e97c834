pub mod Kinds
pub mod Globals
