mod Asked
mod Called
pub mod Due
mod FoundAnswers
mod Picked
mod Viewed
