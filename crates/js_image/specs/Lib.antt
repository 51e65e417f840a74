pub mod Image
pub mod Held
pub mod Laws
pub mod Plans
pub mod Reads
pub mod Callees
pub mod Elements
