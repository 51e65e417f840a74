pub mod Loops
pub mod Meeting
pub mod Seen
