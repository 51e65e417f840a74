pub mod Tags
pub mod Relabelled
pub mod Pairs
pub mod Changes
pub mod Callees
pub mod Heard
pub mod Focused
