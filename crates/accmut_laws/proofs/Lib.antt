mod OneText
mod Commands
mod Again
mod ListTables
mod AcceptedLists
mod Passed
mod SharedSteps
mod ClassText
mod GroupsText
mod Headlines
mod Reports
pub mod WholeRuns
