pub mod Lists
pub mod Sizes
pub mod Hoisting
pub mod Open
pub mod Placing
