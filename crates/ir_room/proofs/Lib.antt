pub mod Aligned
pub mod Places
pub mod Rooms
