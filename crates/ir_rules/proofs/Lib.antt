pub mod FirstFaults
pub mod Passing
pub mod Examples
mod TypeExamples
