pub mod Accepted
pub mod Bare
pub mod Bound
pub mod Ignoring
pub mod Clean
pub mod Staying
