pub mod Again
pub mod Faults
pub mod Reads
pub mod Runs
