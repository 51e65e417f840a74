-- Blocks by the lists of their statements.
use Rattle.std.specs.Prelude.{◌≡◌, List, All, map}
use Rattle.js_tree.specs.Forest.{Forest, IsStmt, stmt_at}
use Rattle.js_tree.specs.declared.nodes.StmtId.{StmtId}
use Rattle.js_flow.specs.declared.job.Block.{Block}
use Rattle.js_flow.specs.Parts.{block_list}

-- the statements of a block are these
abbrev pub IsListOf : Forest → Block → List StmtId → Type 0
IsListOf f b ids = (block_list f b ≡ map (stmt_at f) ids) × All (IsStmt f) ids
