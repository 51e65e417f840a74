pub mod Spelling
pub mod Tidy
pub mod Costs
pub mod Todo
