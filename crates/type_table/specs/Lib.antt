pub mod Table
pub mod Extents
