pub mod Own
pub mod Held
pub mod Image
pub mod Stays
pub mod Targets
pub mod Refusals
pub mod Copies
pub mod Around
