pub mod News
pub mod Events
pub mod RoundLaws
