pub mod MoreGroups
