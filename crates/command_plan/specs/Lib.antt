pub mod Status
pub mod Plan
pub mod Ends
pub mod Answer
pub mod Sharp
