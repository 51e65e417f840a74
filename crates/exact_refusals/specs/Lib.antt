pub mod Judge
pub mod Places
pub mod Plain
