pub mod Turns
pub mod Kept
pub mod Passed
pub mod Digits
pub mod Told
