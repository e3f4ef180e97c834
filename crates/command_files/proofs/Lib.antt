pub mod Refused
pub mod Few
pub mod Same
pub mod OneModule
pub mod OneList
pub mod OneSuite
pub mod Placed
mod FullLemmas
