pub mod Bares
pub mod Births
pub mod Climb
pub mod Firsts
pub mod Gifts
pub mod Protos
pub mod Scoped
