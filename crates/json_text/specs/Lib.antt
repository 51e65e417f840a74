pub mod Weights
pub mod Building
pub mod Reading
pub mod Steps
pub mod Names
pub mod Objects
pub mod Confined
