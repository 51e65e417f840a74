pub mod Stepping
pub mod Gathered
pub mod Manifests
pub mod Shapes
pub mod Telling
pub mod Answering
