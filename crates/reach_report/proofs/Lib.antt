pub mod Tables
pub mod Firsts
pub mod Agreeing
pub mod Leaders
pub mod Analysed
