pub mod Borders
pub mod Places
