pub mod Definitions
pub mod Named
pub mod Graph
pub mod Known
pub mod Scalars
pub mod Walks
