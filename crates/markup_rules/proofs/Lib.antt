pub mod Wording
pub mod Steps
pub mod Nodes
pub mod Again
pub mod Rooted
pub mod Siblings
pub mod Bodies
