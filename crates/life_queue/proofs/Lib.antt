mod Rests
pub mod Keeps
mod Started
mod Passing
pub mod Scripts
mod Timed
mod Led
mod Valued
mod Heard
mod Waits
pub mod Apart
mod Reached
mod Queued
