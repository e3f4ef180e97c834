pub mod Tape
pub mod TapeLaws
pub mod TapeView
