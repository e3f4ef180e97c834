pub mod Numbers
pub mod MoreOptions
pub mod Budgets
