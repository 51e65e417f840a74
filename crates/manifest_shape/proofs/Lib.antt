pub mod SlotLemmas
pub mod DistinctLemmas
pub mod PageLemmas
pub mod LibLemmas
pub mod ChannelLemmas
pub mod ManifestLemmas
