pub mod Makers
pub mod Lists
pub mod Changes
pub mod Walks
