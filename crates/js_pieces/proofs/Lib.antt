pub mod Stacks
pub mod Lists
pub mod Steps
