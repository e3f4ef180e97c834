pub mod Counts
pub mod Held
pub mod Opening
pub mod Rows
pub mod Size
pub mod Store
pub mod Tables
