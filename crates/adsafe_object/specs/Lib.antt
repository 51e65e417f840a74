pub mod Names
pub mod Notes
pub mod Part
pub mod Ends
pub mod Kinds
pub mod Timers
