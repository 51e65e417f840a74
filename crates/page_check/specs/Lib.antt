pub mod Runs
pub mod Widgets
pub mod Fits
pub mod Judged
