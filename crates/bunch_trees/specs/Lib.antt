pub mod Changes
pub mod Values
pub mod Appends
pub mod Explodes
