pub mod Image
pub mod Sound
pub mod Refines
pub mod Handed
pub mod Charges
pub mod Weights
pub mod Made
pub mod Grown
