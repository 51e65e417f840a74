pub mod Items
pub mod Trace
pub mod Said
