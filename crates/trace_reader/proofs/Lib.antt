pub mod ItemLemmas
pub mod TraceLemmas
pub mod OneTrace
