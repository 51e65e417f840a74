pub mod Reads
pub mod Telling
pub mod States
pub mod Differ
pub mod Lasts
