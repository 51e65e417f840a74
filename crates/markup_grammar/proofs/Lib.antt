mod Examples
mod Runs
mod Complete
mod Holds
mod Sound
mod Close
mod Closing
mod Bytes
pub mod Places
mod Cut
pub mod Broken
pub mod Answers
