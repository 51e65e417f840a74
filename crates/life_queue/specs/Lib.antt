pub use Rattle.turn_dispatch.specs.declared.turn.Turn
pub use Rattle.turn_dispatch.specs.Held
pub use Rattle.turn_dispatch.specs.Stop
pub mod Lives
pub mod Fine
pub mod Taken
