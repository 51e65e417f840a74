pub mod Contents
pub mod Pages
pub mod Loadable
