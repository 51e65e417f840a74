pub mod Tokens
pub mod Answered
