pub mod Answers
pub mod Operands
pub mod Comparing
pub mod Fuel
