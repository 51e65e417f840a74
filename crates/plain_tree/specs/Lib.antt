pub mod Names
pub mod Tags
pub mod Words
pub mod Trees
pub mod Plains
pub mod Print
pub mod Normal
