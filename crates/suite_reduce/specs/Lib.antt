pub mod Kills
pub mod Choice
pub mod Pass
pub mod Subsumers
pub mod Planes
pub mod Scan
pub mod Text
