mod Paid
mod Named
pub mod Invoked
mod Entering
pub mod Pairs
mod Declared
pub mod Repeated
mod Converted
pub mod Argued
mod Scoped
