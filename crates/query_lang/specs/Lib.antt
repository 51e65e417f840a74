pub use Rattle.query_walks.specs.Finds
pub use Rattle.query_walks.specs.Nodes
pub use Rattle.query_walks.specs.Walks
pub use Rattle.query_text.specs.Faults
