pub mod Words
pub mod Elements
pub mod Rows
pub mod Parts
