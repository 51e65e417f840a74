pub mod Turning
pub mod Moving
pub mod Keeping
pub mod Steps
pub mod Carrying
