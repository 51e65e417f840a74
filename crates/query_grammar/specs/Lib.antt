pub mod Filters
pub mod Finds
pub mod Machine
pub mod Queries
pub mod Renumbering
pub mod Spelled
pub mod Steps
