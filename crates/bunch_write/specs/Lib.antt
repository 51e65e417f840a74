pub mod Trees
pub mod Tags
pub mod Calls
pub mod Part
