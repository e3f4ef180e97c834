pub mod Founds
pub mod Answers
pub mod OneEnd
pub mod Agreed
pub mod Due
