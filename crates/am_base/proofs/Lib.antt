pub mod Faults
pub mod Pieces
pub mod ResultWords
pub mod Words
