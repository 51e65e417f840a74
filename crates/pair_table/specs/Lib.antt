pub mod Pairs
pub mod Rising
pub mod Storage
