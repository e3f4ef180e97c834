pub mod Shown
pub mod FlatView
pub mod Taken
pub mod TakenLaws
pub mod Keys
