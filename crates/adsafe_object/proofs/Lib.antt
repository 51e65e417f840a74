pub mod Exits
pub mod Shapes
pub mod Lengths
pub mod Noting
pub mod Timing
pub mod Lists
pub mod Receiving
