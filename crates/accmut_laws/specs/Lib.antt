pub mod Shares
pub mod Classes
pub mod Passes
pub mod Headline
pub mod Orders
pub mod Mutants
