pub mod Plain
pub mod Forest
pub mod Parts
pub mod Lists
pub mod Arena
pub mod Trees
