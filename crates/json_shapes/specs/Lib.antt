pub mod Each
pub mod Keys
pub mod Look
pub mod Json
