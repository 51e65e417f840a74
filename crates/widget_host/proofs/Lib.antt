mod Lasts
mod Fed
mod Printed
mod Shown
mod Stands
mod Placed
mod Given
mod Sets
mod Born
mod Bearing
mod Alike
mod Same
mod Rounding
pub mod Lived
mod Ways
mod Passed
mod Whole
mod Staying
mod Firsts
mod Counting
mod Raws
mod Reading
pub mod Reached
