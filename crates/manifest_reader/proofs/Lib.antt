pub mod HtmlLemmas
pub mod PageLemmas
pub mod LoopLemmas
pub mod ManifestLemmas
pub mod SameLemmas
pub mod VersionLemmas
