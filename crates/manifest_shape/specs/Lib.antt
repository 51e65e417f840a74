pub mod Distinct
pub mod Slots
pub mod Manifest
