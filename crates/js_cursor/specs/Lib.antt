pub mod Signs
pub mod Reads
pub mod Named
pub mod Texts
