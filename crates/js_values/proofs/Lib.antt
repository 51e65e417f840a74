pub mod Answered
pub mod Identity
pub mod Orders
pub mod Plain
