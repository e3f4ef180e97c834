pub mod Suite
pub mod Expected
pub mod Tests
