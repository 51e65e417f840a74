pub use Rattle.js_pieces.specs.Spelling
pub use Rattle.js_pieces.specs.Tidy
pub mod Writing
pub mod Walk
