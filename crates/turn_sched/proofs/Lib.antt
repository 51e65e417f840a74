pub mod Flags
pub mod Chosen
pub mod Kept
