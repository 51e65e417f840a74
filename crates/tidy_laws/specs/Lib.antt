pub mod Told
pub mod Tame
pub mod Proper
pub mod Laws
