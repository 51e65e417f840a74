pub mod Input
pub mod LongMarks
pub mod Reading
pub mod Listed
pub mod Keys
pub mod Kept
