pub mod Live
pub mod LiveLaws
pub mod Shown
pub mod SharedView
pub mod Written
