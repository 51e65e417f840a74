pub mod Natives
pub mod Table
