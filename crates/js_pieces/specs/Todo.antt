-- What a piece of work has still to print.
use Rattle.std.specs.Prelude.{◌≡◌, ℕ, ◌+◌, ◌≤◌, List, [], ◌∷◌, ◌++◌, Bool, false, if◌then◌else◌, map, All}
use Rattle.js_tree.specs.Forest.{Forest, IsExpr, IsStmt, IsFun, expr_at, stmt_at, fun_at, exprs_at, stmts_at, funs_at, properties_at, decls_at, clauses_at, init_at, optional_at, catch_at, block_at, IsOptional, AreDecls, AreInit, AreClauseParts, AreCatch, AreBlock}
use Rattle.js_tree.specs.Plain.{ExprForm, StmtForm}
use Rattle.js_pieces.specs.declared.work.Work.{Work}
use Rattle.js_pieces.specs.declared.work.Work.TheVariants as work
use Rattle.js_pieces.specs.declared.levels.TheConstants.{WHOLE}
use Rattle.js_pieces.specs.Costs.{enclosed_cost, label_cost, names_cost, expr_cost, form_cost, exprs_cost, properties_cost, decls_cost, value_cost, optional_cost, init_cost, stmt_cost, stmt_form_cost, stmts_cost, catch_cost, last_cost, clauses_cost, test_cost, fun_cost, funs_cost}
use Rattle.js_pieces.specs.Tidy.{Tokens, enclosed, braced, more, listed, mark, name, quoted, label_tokens, var_tokens, else_tokens, expr_tokens, form_tokens, exprs_tokens, properties_tokens, decls_tokens, value_tokens, optional_tokens, init_tokens, stmt_tokens, stmt_form_tokens, stmts_tokens, catch_tokens, last_tokens, clauses_tokens, test_tokens, fun_tokens, funs_tokens}

-- a list of which some stood before
abbrev pub between : Bool → List Tokens → Tokens
between begun xs = if begun then more xs else listed xs

-- the tokens of a piece
abbrev pub work_tokens : Forest → Work → Tokens
work_tokens f (work.Mark text) = mark text.now
work_tokens f (work.Name text) = name text.now
work_tokens f (work.Quoted text) = quoted text.now
work_tokens f (work.Expr id level first) = expr_tokens first level (expr_at f id)
work_tokens f (work.Head id) = enclosed (expr_tokens false WHOLE (expr_at f id))
work_tokens f (work.Block ids) = braced (stmts_tokens (stmts_at f ids.now))
work_tokens f (work.Stmt id) = stmt_tokens (stmt_at f id)
work_tokens f (work.Fun id) = fun_tokens (fun_at f id)
work_tokens f (work.Exprs ids begun) = between begun (exprs_tokens (exprs_at f ids.now))
work_tokens f (work.Properties ps begun) = between begun (properties_tokens (properties_at f ps.now))
work_tokens f (work.Decls ds begun) = between begun (decls_tokens (decls_at f ds.now))
work_tokens f (work.Names texts begun) = between begun (map name texts.now)
work_tokens f (work.Stmts ids) = stmts_tokens (stmts_at f ids.now)
work_tokens f (work.Funs ids) = funs_tokens (funs_at f ids.now)
work_tokens f (work.Clauses cs) = clauses_tokens (clauses_at f cs.now)
work_tokens f (work.Else ids) = else_tokens (stmts_at f ids.now) (stmts_tokens (stmts_at f ids.now))
work_tokens f (work.Init init) = init_tokens (init_at f init.now)
work_tokens f (work.Optional e) = optional_tokens (optional_at f e)
work_tokens f (work.Value e) = value_tokens (optional_at f e)
work_tokens f (work.Test e) = test_tokens (optional_at f e)
work_tokens f (work.Declared declared) = var_tokens declared
work_tokens f (work.Label label) = label_tokens label.now
work_tokens f (work.Catch caught) = catch_tokens (catch_at f caught.now)
work_tokens f (work.Last last) = last_tokens (block_at f last.now)

-- it is one token
abbrev pub IsToken : Work → Type 0
IsToken (work.Mark text) = Unit {0}
IsToken (work.Name text) = Unit {0}
IsToken (work.Quoted text) = Unit {0}
IsToken _ = ⊥

-- how many steps it takes at most, besides its own
abbrev pub inner_cost : Forest → Work → ℕ
inner_cost f (work.Mark text) = 1
inner_cost f (work.Name text) = 1
inner_cost f (work.Quoted text) = 1
inner_cost f (work.Expr id level first) = expr_cost (expr_at f id)
inner_cost f (work.Head id) = enclosed_cost (expr_cost (expr_at f id))
inner_cost f (work.Block ids) = enclosed_cost (stmts_cost (stmts_at f ids.now))
inner_cost f (work.Stmt id) = stmt_cost (stmt_at f id)
inner_cost f (work.Fun id) = fun_cost (fun_at f id)
inner_cost f (work.Exprs ids begun) = exprs_cost (exprs_at f ids.now)
inner_cost f (work.Properties ps begun) = properties_cost (properties_at f ps.now)
inner_cost f (work.Decls ds begun) = decls_cost (decls_at f ds.now)
inner_cost f (work.Names texts begun) = names_cost texts.now
inner_cost f (work.Stmts ids) = stmts_cost (stmts_at f ids.now)
inner_cost f (work.Funs ids) = funs_cost (funs_at f ids.now)
inner_cost f (work.Clauses cs) = clauses_cost (clauses_at f cs.now)
inner_cost f (work.Else ids) = 8 + stmts_cost (stmts_at f ids.now)
inner_cost f (work.Init init) = init_cost (init_at f init.now)
inner_cost f (work.Optional e) = optional_cost (optional_at f e)
inner_cost f (work.Value e) = value_cost (optional_at f e)
inner_cost f (work.Test e) = test_cost (optional_at f e)
inner_cost f (work.Declared declared) = 2
inner_cost f (work.Label label) = label_cost label.now
inner_cost f (work.Catch caught) = catch_cost (catch_at f caught.now)
inner_cost f (work.Last last) = last_cost (block_at f last.now)

-- how many steps it takes at most
abbrev pub work_cost : Forest → Work → ℕ
work_cost f w = 1 + inner_cost f w

-- it speaks of nodes of the forest
abbrev pub IsWork : Forest → Work → Type 0
IsWork f (work.Expr id level first) = IsExpr f id
IsWork f (work.Head id) = IsExpr f id
IsWork f (work.Block ids) = All (IsStmt f) ids.now
IsWork f (work.Stmt id) = IsStmt f id
IsWork f (work.Fun id) = IsFun f id
IsWork f (work.Exprs ids begun) = All (IsExpr f) ids.now
IsWork f (work.Properties ps begun) = All (λ p. IsExpr f p.1) ps.now
IsWork f (work.Decls ds begun) = AreDecls f ds.now
IsWork f (work.Stmts ids) = All (IsStmt f) ids.now
IsWork f (work.Funs ids) = All (IsFun f) ids.now
IsWork f (work.Clauses cs) = All (AreClauseParts f) cs.now
IsWork f (work.Else ids) = All (IsStmt f) ids.now
IsWork f (work.Init init) = AreInit f init.now
IsWork f (work.Optional e) = IsOptional f e
IsWork f (work.Value e) = IsOptional f e
IsWork f (work.Test e) = IsOptional f e
IsWork f (work.Catch caught) = AreCatch f caught.now
IsWork f (work.Last last) = AreBlock f last.now
IsWork f _ = Unit {0}

-- pieces one after the other
abbrev pub row : Forest → List Work → Tokens
row f [] = []
row f (w ∷ ws) = work_tokens f w ++ row f ws

-- how many steps they take at most
abbrev pub row_cost : Forest → List Work → ℕ
row_cost f [] = 0
row_cost f (w ∷ ws) = work_cost f w + row_cost f ws

-- they speak of nodes of the forest
abbrev pub AreWork : Forest → List Work → Type 0
AreWork f [] = Unit {0}
AreWork f (w ∷ ws) = IsWork f w × AreWork f ws

-- a stack of pieces, of which the last comes first
abbrev pub todo : Forest → List Work → Tokens
todo f [] = []
todo f (w ∷ ws) = todo f ws ++ work_tokens f w

-- a stack with these tokens more, which takes at most so many steps more
pub record Pushes (f : Forest) (ts : Tokens) (cost : ℕ) (old new : List Work) : Type 0 where
  pub tokens : todo f new ≡ ts ++ todo f old
  pub steps : row_cost f new ≤ cost + row_cost f old
  pub valid : AreWork f old → AreWork f new

-- a stack with an expression's form more, without its parentheses
abbrev pub PushesForm : Forest → Bool → ExprForm → List Work → List Work → Type 0
PushesForm f first form old new = Pushes f (form_tokens first form) (form_cost form) old new

-- a stack with a statement's form more
abbrev pub PushesStmt : Forest → StmtForm → List Work → List Work → Type 0
PushesStmt f form old new = Pushes f (stmt_form_tokens form) (stmt_form_cost form) old new
