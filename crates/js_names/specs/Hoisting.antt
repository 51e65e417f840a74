-- The statements in a statement, and the names that it declares itself, in order of the text.
use Rattle.std.specs.Prelude.{ℕ, List, [], ◌∷◌, ◌++◌, map, Option, Some, None, if◌then◌else◌}
use Rattle.std.specs.List.{flat_map}
use Rattle.std.specs.declared.vec.Vec.{Vec}
use Rattle.std.specs.declared.alloc.Global.{Global}
use Rattle.js_tree.specs.declared.nodes.StmtId.{StmtId}
use Rattle.js_tree.specs.declared.nodes.FunId.{FunId}
use Rattle.js_tree.specs.declared.nodes.Decl.{Decl}
use Rattle.js_tree.specs.declared.nodes.ForInit.{ForInit}
use Rattle.js_tree.specs.declared.nodes.ForInit.TheVariants as init
use Rattle.js_tree.specs.declared.nodes.Clause.{Clause}
use Rattle.js_tree.specs.declared.nodes.Stmt.{Stmt}
use Rattle.js_tree.specs.declared.nodes.Stmt.TheVariants as stmt
use Rattle.js_tree.specs.Forest.{Forest, fun_at}
use Rattle.widget_meaning.specs.Scopes.{fun_name}

-- the statements of clauses
abbrev pub clause_bodies : List Clause → List StmtId
clause_bodies cs = flat_map (λ c. c.body.items) cs

-- those of a `catch`
abbrev pub catch_ids : Option (List ℕ × Vec StmtId Global) → List StmtId
catch_ids None = []
catch_ids (Some c) = c.1.items

-- those of a `finally`
abbrev pub last_ids : Option (Vec StmtId Global) → List StmtId
last_ids None = []
last_ids (Some ids) = ids.items

-- the statements of a statement's blocks
abbrev pub block_ids : Stmt → List StmtId
block_ids (stmt.If e a b) = a.items ++ b.items
block_ids (stmt.While e body) = body.items
block_ids (stmt.DoWhile e body) = body.items
block_ids (stmt.For first test next body) = body.items
block_ids (stmt.ForIn declared name e body) = body.items
block_ids (stmt.With e body) = body.items
block_ids (stmt.Switch e clauses) = clause_bodies clauses.items
block_ids (stmt.Try body caught last) = body.items ++ (catch_ids caught ++ last_ids last)
block_ids (stmt.Label name s) = s ∷ []
block_ids _ = []

-- declared names
abbrev pub decl_texts : List Decl → List (List ℕ)
decl_texts ds = map (λ d. d.name) ds

-- those of the first part of a `for`
abbrev pub init_texts : ForInit → List (List ℕ)
init_texts (init.Var decls) = decl_texts decls.items
init_texts (init.List ids) = []

-- the names that a statement declares itself
abbrev pub own_texts : Stmt → List (List ℕ)
own_texts (stmt.Var decls) = decl_texts decls.items
own_texts (stmt.For first test next body) = init_texts first
own_texts (stmt.ForIn declared name e body) = if declared then name ∷ [] else []
own_texts _ = []

-- the names of functions
abbrev pub fun_texts : Forest → List FunId → List (List ℕ)
fun_texts f ids = flat_map (λ id. fun_name (fun_at f id)) ids
