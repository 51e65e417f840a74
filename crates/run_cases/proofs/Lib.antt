pub mod Staying
pub mod First
pub mod Tasks
