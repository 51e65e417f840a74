mod Handed
mod Unlinked
mod Stirred
mod Rested
mod Fresh
pub mod Taken
pub mod Showing
mod Entering
