pub mod Globals
pub mod Inits
pub mod Loops
pub mod Walks
