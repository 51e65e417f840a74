pub mod Sources
pub mod Slot
pub mod Verdicts
pub mod Line
pub mod Slots
