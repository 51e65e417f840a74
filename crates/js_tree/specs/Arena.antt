-- How a tree keeps its nodes: a list of each kind, and the kinds in the order of their birth.
use Rattle.std.specs.Prelude.{◌≡◌, ℕ, ◌≤◌, List, [], ◌∷◌, ◌++◌, length, Bool, true, false, nat_lt, ◌&&◌, map, slice_range, All}
use Rattle.js_tree.specs.declared.nodes.StmtId.{StmtId}
use Rattle.js_tree.specs.declared.nodes.Expr.{Expr as ExprNode}
use Rattle.js_tree.specs.declared.nodes.Stmt.{Stmt as StmtNode}
use Rattle.js_tree.specs.declared.nodes.Fun.{Fun as FunNode}
use Rattle.js_tree.specs.declared.nodes.Part.{Part}
use Rattle.js_tree.specs.declared.nodes.Part.TheVariants as part
use Rattle.js_tree.specs.declared.tree.Span.{Span}
use Rattle.js_tree.specs.declared.tree.ExprEntry.{ExprEntry}
use Rattle.js_tree.specs.declared.tree.StmtEntry.{StmtEntry}
use Rattle.js_tree.specs.declared.tree.FunEntry.{FunEntry}
use Rattle.js_tree.specs.declared.tree.Kind.{Kind}
use Rattle.js_tree.specs.declared.tree.Kind.TheVariants as kind
use Rattle.js_tree.specs.Forest.{Forest, no_trees, plain_expr, plain_stmt, plain_fun, AreExprParts, AreStmtParts, AreFunParts}
use Rattle.js_tree.specs.Parts.{Spot, AnExpr, AStmt, AFun, spot_at, expr_parts, stmt_parts, fun_parts}

-- a node of any kind, with its place and the places of its own names
pub data Entry : Type 0 where
  ExprEntryAt : ExprNode → ℕ → List ℕ → Entry
  StmtEntryAt : StmtNode → ℕ → List ℕ → Entry
  FunEntryAt : FunNode → List ℕ → Entry

-- a part of the list of all names
abbrev pub names_of : List ℕ → Span → List ℕ
names_of names span = slice_range names span.from span.to

abbrev pub IsWithin : List ℕ → Span → Type 0
IsWithin names span = (span.from ≤ span.to) × (span.to ≤ length names)

abbrev pub expr_entry : List ℕ → ExprEntry → Entry
expr_entry names e = ExprEntryAt e.node e.at (names_of names e.names)

abbrev pub stmt_entry : List ℕ → StmtEntry → Entry
stmt_entry names s = StmtEntryAt s.node s.at (names_of names s.names)

abbrev pub fun_entry : List ℕ → FunEntry → Entry
fun_entry names g = FunEntryAt g.node (names_of names g.names)

-- the nodes of all kinds in the order of birth
abbrev pub entries : List ℕ → List Kind → List ExprEntry → List StmtEntry → List FunEntry → List Entry
entries names (kind.Expr ∷ ks) (e ∷ es) ss gs = expr_entry names e ∷ entries names ks es ss gs
entries names (kind.Stmt ∷ ks) es (s ∷ ss) gs = stmt_entry names s ∷ entries names ks es ss gs
entries names (kind.Fun ∷ ks) es ss (g ∷ gs) = fun_entry names g ∷ entries names ks es ss gs
entries names _ _ _ _ = []

-- whether the kinds are those of these nodes
abbrev pub are_counted : List Kind → List ExprEntry → List StmtEntry → List FunEntry → Bool
are_counted [] [] [] [] = true
are_counted (kind.Expr ∷ ks) (e ∷ es) ss gs = are_counted ks es ss gs
are_counted (kind.Stmt ∷ ks) es (s ∷ ss) gs = are_counted ks es ss gs
are_counted (kind.Fun ∷ ks) es ss (g ∷ gs) = are_counted ks es ss gs
are_counted _ _ _ _ = false

-- the plain tree of an entry, over those of its parts
abbrev pub entry_spot : Forest → Entry → Spot
entry_spot f (ExprEntryAt node at names) = AnExpr (plain_expr f node at names)
entry_spot f (StmtEntryAt node at names) = AStmt (plain_stmt f node at names)
entry_spot f (FunEntryAt node names) = AFun (plain_fun f node names)

-- a forest with one tree more
abbrev pub with_spot : Forest → Spot → Forest
with_spot f (AnExpr e) = record f { exprs = f.exprs ++ e ∷ [] }
with_spot f (AStmt s) = record f { stmts = f.stmts ++ s ∷ [] }
with_spot f (AFun g) = record f { funs = f.funs ++ g ∷ [] }

abbrev pub grow : Forest → List Entry → Forest
grow f [] = f
grow f (e ∷ es) = grow (with_spot f (entry_spot f e)) es

-- the trees of all entries
unfoldable pub forest : List Entry → Forest
forest all = grow no_trees all

abbrev pub entry_parts : Entry → List Part
entry_parts (ExprEntryAt node at names) = expr_parts node
entry_parts (StmtEntryAt node at names) = stmt_parts node
entry_parts (FunEntryAt node names) = fun_parts node

-- whether all parts are in the forest
abbrev pub is_in : Forest → Part → Bool
is_in f (part.Expr id) = nat_lt id.0 (length f.exprs)
is_in f (part.Stmt id) = nat_lt id.0 (length f.stmts)
is_in f (part.Fun id) = nat_lt id.0 (length f.funs)

abbrev pub are_in : Forest → List Part → Bool
are_in f [] = true
are_in f (p ∷ ps) = is_in f p && are_in f ps

-- whether each part is older than its node
abbrev pub is_ordered : Forest → List Entry → Bool
is_ordered f [] = true
is_ordered f (e ∷ es) = are_in f (entry_parts e) && is_ordered (with_spot f (entry_spot f e)) es

-- The kinds are those of the nodes, each part is older than its node, the program is in the tree, and the nodes' names are in the list.
pub record IsArena (names : List ℕ) (births : List Kind) (exprs : List ExprEntry) (stmts : List StmtEntry) (funs : List FunEntry) (program : List StmtId) : Type 0 where
  pub counted : are_counted births exprs stmts funs ≡ true
  pub ordered : is_ordered no_trees (entries names births exprs stmts funs) ≡ true
  pub program_in : are_in (forest (entries names births exprs stmts funs)) (map part.Stmt program) ≡ true
  pub exprs_within : All (λ e. IsWithin names e.names) exprs
  pub stmts_within : All (λ s. IsWithin names s.names) stmts
  pub funs_within : All (λ g. IsWithin names g.names) funs

abbrev pub AreEntryParts : Forest → Entry → Type 0
AreEntryParts f (ExprEntryAt node at names) = AreExprParts f node
AreEntryParts f (StmtEntryAt node at names) = AreStmtParts f node
AreEntryParts f (FunEntryAt node names) = AreFunParts f node

-- the entry stands for the tree with the number, and its parts are in the forest
pub record Stands (f : Forest) (e : Entry) (p : Part) : Type 0 where
  pub same : entry_spot f e ≡ spot_at f p
  pub parts : AreEntryParts f e
