pub mod Roots
pub mod Made
pub mod Replaced
pub mod Receivers
pub mod Bubbled
pub mod Calls
