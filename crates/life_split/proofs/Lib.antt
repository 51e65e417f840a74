pub mod Cutting
pub mod Spans
pub mod Holding
pub mod Setting
pub mod LawsHold
