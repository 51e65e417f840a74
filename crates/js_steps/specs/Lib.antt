pub mod Answered
pub mod Charges
pub mod Ending
pub mod Tolls
pub mod Unwinding
