pub mod Follow
pub mod Moves
pub mod Stays
pub mod Listing
