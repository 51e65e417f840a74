pub use Rattle.js_cursor.specs.Signs
pub use Rattle.js_cursor.specs.Reads
pub mod Parse
