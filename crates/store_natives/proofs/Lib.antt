pub mod Unheard
pub mod Receivers
pub mod InRooms
pub mod CarriedOut
