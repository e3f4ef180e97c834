pub mod Lives
pub mod Counted
pub mod States
pub mod WriteSteps
pub mod Ranges
pub mod Memories
