pub mod Toy
pub mod ToyLaws
pub mod ToyView
pub mod Example
