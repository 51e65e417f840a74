pub mod Exits
pub mod Parsing
pub mod PowerLaws
pub mod Small
