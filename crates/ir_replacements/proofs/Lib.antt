pub mod LabelSets
pub mod Asked
pub mod Pass
pub mod Replacing
