pub mod Layout
pub mod Types
