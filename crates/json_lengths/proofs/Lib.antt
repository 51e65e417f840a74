pub mod Deeper
pub mod Found
pub mod Exceeding
