pub mod OneRequest
pub mod Texts
