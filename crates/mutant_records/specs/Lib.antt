pub mod Lists
pub mod Order
pub mod Progress
pub mod Tables
