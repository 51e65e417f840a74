pub use Rattle.page_play.specs.declared.findings
pub use Rattle.page_play.specs.Findings
pub use Rattle.page_play.specs.HostItem
pub use Rattle.page_play.specs.Settled
pub use Rattle.page_play.specs.Swaps
pub mod Living
pub mod Page
