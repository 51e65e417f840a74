pub mod Hoisting
pub mod Names
pub mod Found
pub mod Code
