pub mod MoreParts
