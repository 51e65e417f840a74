pub mod Grows
mod Raw
