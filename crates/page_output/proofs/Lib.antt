pub mod Texts
pub mod PlainTrees
pub mod Nodes
