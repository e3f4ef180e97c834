pub mod Formulas
pub mod Loops
pub mod Masks
pub mod Orders
pub mod Pages
pub mod Vectors
