pub mod Interned
pub mod Keying
pub mod Numbers
