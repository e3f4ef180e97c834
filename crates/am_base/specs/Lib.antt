pub mod Cause
pub mod Files
pub mod Outcome
pub mod Text
pub mod Word
