pub mod InRooms
mod Unheard
pub mod Whole
pub mod Started
