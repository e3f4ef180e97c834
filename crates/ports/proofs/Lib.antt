pub mod NoPorts
