pub mod Verdict
pub mod Score
