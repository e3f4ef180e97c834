pub mod Class
pub mod Answer
