pub mod Takes
pub mod Complete
pub mod Waits
pub mod Keeps
pub mod Sound
pub mod Close
pub mod Links
pub mod Laws
pub mod Fronts
pub mod Shapes
mod Examples
