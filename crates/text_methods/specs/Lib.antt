pub mod Choices
pub mod Part
