pub mod Steps
pub mod KeptRows
pub mod Jobs
