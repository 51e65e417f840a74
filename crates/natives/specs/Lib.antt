pub mod Rooms
pub mod Reach
pub mod Refines
pub mod Asked
