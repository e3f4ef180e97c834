pub mod Names
pub mod OpWords
pub mod Taken
