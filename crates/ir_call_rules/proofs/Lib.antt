pub mod Tests
pub mod Sets
pub mod Operands
pub mod Entries
pub mod Buckets
pub mod PortNumbers
pub mod Alike
