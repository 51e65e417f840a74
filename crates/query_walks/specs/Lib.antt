pub mod Classes
pub mod Finds
pub mod FirstFailed
pub mod Nodes
pub mod Thinned
pub mod Walks
