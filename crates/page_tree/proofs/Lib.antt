pub mod Numbers
pub mod Refusals
pub mod RootsKept
pub mod Start
pub mod Counts
pub mod Takes
pub mod Agree
pub mod InDocument
