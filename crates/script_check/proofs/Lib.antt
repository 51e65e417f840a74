pub mod Counts
pub mod Judged
pub mod Written
pub mod Verdicts
pub mod Some
