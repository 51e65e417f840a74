pub mod Parts
pub mod Arrays
pub mod Sorting
