pub mod Building
pub mod Positions
pub mod Shifts
pub mod Standing
