pub mod Asks
pub mod Turns
