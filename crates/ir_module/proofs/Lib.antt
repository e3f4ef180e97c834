pub mod Rooms
pub mod Items
pub mod Turns
pub mod Modules
