pub mod Modules
pub mod Mutants
pub mod Tests
pub mod FullLists
