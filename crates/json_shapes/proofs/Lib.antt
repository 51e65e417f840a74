pub mod EachLemmas
pub mod KeyLemmas
