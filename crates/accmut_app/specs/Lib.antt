pub mod Commands
pub mod Call
pub mod ViewWords
pub mod View
