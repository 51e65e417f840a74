-- The names that statements declare, as they are gathered.
use Rattle.std.specs.Prelude.{ℕ, List, [], ◌∷◌, ◌++◌, map, Option, Some, None, if◌then◌else◌}
use Rattle.std.specs.List.{flat_map}
use Rattle.std.specs.declared.vec.Vec.{Vec}
use Rattle.std.specs.declared.alloc.Global.{Global}
use Rattle.js_tree.specs.declared.nodes.StmtId.{StmtId}
use Rattle.js_tree.specs.declared.nodes.FunId.{FunId}
use Rattle.js_tree.specs.declared.nodes.Decl.{Decl}
use Rattle.js_tree.specs.declared.nodes.ForInit.{ForInit as InitNode}
use Rattle.js_tree.specs.declared.nodes.ForInit.TheVariants as init
use Rattle.js_tree.specs.declared.nodes.Clause.{Clause}
use Rattle.js_tree.specs.declared.nodes.Stmt.{Stmt as StmtNode}
use Rattle.js_tree.specs.declared.nodes.Stmt.TheVariants as stmt
use Rattle.js_tree.specs.Forest.{Forest, stmt_at, fun_at}
use Rattle.js_tree.specs.Parts.{Spot, AStmt, spots_size}
use Rattle.first_breach.specs.Lists.{In}
use Rattle.node_rules.specs.Binding.{Declares, own_name}

abbrev pub stmt_spot : Forest → StmtId → Spot
stmt_spot f id = AStmt (stmt_at f id)

-- one of the statements declares the name
pub record AnyDeclares (f : Forest) (ids : List StmtId) (t : List ℕ) : Type 0 where
  pub id : StmtId
  pub is_in : In id ids
  pub declares : Declares (stmt_spot f id) t

-- the number of nodes in statements
abbrev pub stmts_load : Forest → List StmtId → ℕ
stmts_load f ids = spots_size (map (stmt_spot f) ids)

-- the statements in the blocks of a statement
abbrev pub clause_bodies : List Clause → List StmtId
clause_bodies cs = flat_map (λ c. c.body.items) cs

abbrev pub catch_ids : Option (List ℕ × Vec StmtId Global) → List StmtId
catch_ids None = []
catch_ids (Some c) = c.1.items

abbrev pub last_ids : Option (Vec StmtId Global) → List StmtId
last_ids None = []
last_ids (Some ids) = ids.items

abbrev pub block_ids : StmtNode → List StmtId
block_ids (stmt.If e a b) = a.items ++ b.items
block_ids (stmt.While e body) = body.items
block_ids (stmt.DoWhile e body) = body.items
block_ids (stmt.For first test next body) = body.items
block_ids (stmt.ForIn declared name e body) = body.items
block_ids (stmt.With e body) = body.items
block_ids (stmt.Switch e clauses) = clause_bodies clauses.items
block_ids (stmt.Try body caught last) = body.items ++ (catch_ids caught ++ last_ids last)
block_ids (stmt.Label name s) = s ∷ []
block_ids _ = []

-- the names that a statement declares itself
abbrev pub decl_texts : List Decl → List (List ℕ)
decl_texts ds = map (λ d. d.name) ds

abbrev pub init_texts : InitNode → List (List ℕ)
init_texts (init.Var decls) = decl_texts decls.items
init_texts (init.List ids) = []

abbrev pub own_texts : StmtNode → List (List ℕ)
own_texts (stmt.Var decls) = decl_texts decls.items
own_texts (stmt.For first test next body) = init_texts first
own_texts (stmt.ForIn declared name e body) = if declared then name ∷ [] else []
own_texts _ = []

-- the names of functions
abbrev pub fun_texts : Forest → List FunId → List (List ℕ)
fun_texts f ids = flat_map (λ id. own_name (fun_at f id)) ids

-- the name that a statement binds in its scope
abbrev pub caught_texts : Option (List ℕ × Vec StmtId Global) → List (List ℕ)
caught_texts None = []
caught_texts (Some c) = c.0 ∷ []

abbrev pub bound_texts : StmtNode → List (List ℕ)
bound_texts (stmt.Try body caught last) = caught_texts caught
bound_texts _ = []
