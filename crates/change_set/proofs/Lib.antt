pub mod PageCounts
