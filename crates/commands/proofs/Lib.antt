pub mod Listed
pub mod FilesLemmas
pub mod AloneLemmas
pub mod RunLemmas
pub mod UnmovedLemmas
pub mod GroupsLemmas
pub mod Sharp
pub mod Names
mod NoPorts
pub mod OneText
pub mod OneReport
pub mod ClassLemmas
pub mod OneGroups
mod MakeLemmas
mod LoadLemmas
pub mod PageLemmas
