pub mod Tests
pub mod Labels
pub mod Kept
pub mod Callees
pub mod Values
pub mod Restyled
