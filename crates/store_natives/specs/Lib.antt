pub mod Rooms
pub mod Carried
pub mod Done
