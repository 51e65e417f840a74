pub mod Texts
pub mod There
pub mod ThereLaws
pub mod OrdinaryLaws
pub mod NumberLaws
