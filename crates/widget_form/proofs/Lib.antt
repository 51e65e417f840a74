pub mod Body
pub mod Splitting
pub mod GoodFiles
