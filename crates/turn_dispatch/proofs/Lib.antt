pub use Rattle.js_steps.proofs.Ending
mod Paying
mod Born
mod Filled
mod Evented
mod Announced
mod Listening
mod Searched
pub mod Stays
pub mod Taken
mod Arms
pub mod Kept
mod Given
