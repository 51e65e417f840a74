pub mod Calls
pub mod Owned
pub mod Grows
pub mod Elements
