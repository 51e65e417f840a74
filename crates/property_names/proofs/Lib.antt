pub mod Digits
mod Seen
