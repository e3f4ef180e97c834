pub mod Exact
pub mod GroupExact
pub mod Productions
pub mod ModuleLemmas
pub mod Loops
pub mod Names
