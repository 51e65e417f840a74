pub use Rattle.markup_rules.specs.Words
pub use Rattle.markup_rules.specs.Elements
pub use Rattle.markup_rules.specs.Rows
pub mod Forms
pub mod Good
