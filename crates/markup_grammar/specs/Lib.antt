pub mod Signs
pub mod Grammar
pub mod Markup
pub mod Machine
pub mod Judge
