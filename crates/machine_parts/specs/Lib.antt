pub mod Keys
pub mod Shown
pub mod Taken
pub mod TakenLaws
