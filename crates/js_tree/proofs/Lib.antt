pub mod Grown
pub mod Kept
pub mod PartsIn
pub mod Births
pub mod Arenas
pub mod PartLaws
mod Listing
