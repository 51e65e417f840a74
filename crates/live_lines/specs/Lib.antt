pub mod Transcript
pub mod Outcome
