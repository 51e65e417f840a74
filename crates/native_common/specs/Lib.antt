pub mod Receivers
pub mod Numbers
pub mod Refines
