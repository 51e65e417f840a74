pub mod Page
pub mod Html
pub mod Manifest
pub mod Versions
pub mod Same
