pub use Rattle.life_queue.specs.declared.life
pub use Rattle.life_queue.specs.Fine
pub use Rattle.life_queue.specs.Held
pub use Rattle.life_queue.specs.Lives as QueueLives
pub use Rattle.life_queue.specs.Turn
pub mod Places
pub mod Lives
pub mod Feeding
pub mod Posting
