pub mod Rules
pub mod Parting
pub mod Stacking
pub mod Visiting
pub mod Openings
pub mod Starting
pub mod Judging
pub mod Passing
