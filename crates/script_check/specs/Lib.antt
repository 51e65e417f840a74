pub mod Script
pub mod Faults
pub mod Verdict
pub mod Line
