pub mod Children
pub mod Lots
pub mod Stands
pub mod Laid
pub mod Swapped
pub mod Passing
pub mod Pieces
mod Raws
pub mod Homes
mod Hosted
mod Counted
pub mod Coming
