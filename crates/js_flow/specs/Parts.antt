-- The parts of a node, none for a node of another form, and the lists of parts.
use Rattle.std.specs.Prelude.{◌≡◌, ℕ, ◌+◌, ◌<◌, ◌^◌, List, [], ◌∷◌, Option, MatchOption, drop, slice_index_or}
use Rattle.js_tree.specs.declared.nodes.ExprId.{ExprId}
use Rattle.js_tree.specs.declared.nodes.StmtId.{StmtId}
use Rattle.js_tree.specs.Plain as tree
use Rattle.js_tree.specs.Plain.{Expr, Stmt, Stmts, Fun, Funs, Catch, ForInit, OptionalBlock, OptionalExpr}
use Rattle.js_tree.specs.Lists.{clause_list, decl_list, expr_list, property_list, stmt_list}
use Rattle.js_tree.specs.Forest.{Forest, IsExpr, IsFun, IsStmt, no_trees, expr_at, fun_at, stmt_at}
use Rattle.widget_meaning.specs.Calls.{without_directive}
use Rattle.widget_meaning.specs.Plan.{Loop, WhileLoop, DoLoop, ForLoop}
use Rattle.widget_meaning.specs.Statements.{Case, bodies}
use Rattle.js_flow.specs.declared.job.Block.{Block}
use Rattle.js_flow.specs.declared.job.Block.TheVariants as block
use Rattle.js_flow.specs.declared.job.Listed.{Listed}

-- the trees of one script
abbrev pub forest_at : List Forest → ℕ → Forest
forest_at fs code = slice_index_or fs code no_trees

-- ## Expressions

-- the elements of an array literal
abbrev pub elements_of : Expr → List Expr
elements_of (tree.ExprAt at names (tree.Array es)) = expr_list es
elements_of _ = []

-- the keys and values of an object literal
abbrev pub properties_of : Expr → List (List ℕ × Expr)
properties_of (tree.ExprAt at names (tree.Object qs)) = property_list qs
properties_of _ = []

-- the arguments of a call
abbrev pub arguments_of : Expr → List Expr
arguments_of (tree.ExprAt at names (tree.Call e es)) = expr_list es
arguments_of _ = []

-- ## Statements

-- the declared variables of the first part of a `for`
abbrev pub init_decls : ForInit → List (List ℕ × OptionalExpr)
init_decls (tree.DeclsFirst ds) = decl_list ds
init_decls (tree.ExprsFirst es) = []

-- those of `var`, also in a `for`
abbrev pub decls_of : Stmt → List (List ℕ × OptionalExpr)
decls_of (tree.StmtAt at names (tree.Var ds)) = decl_list ds
decls_of (tree.StmtAt at names (tree.For first test next b)) = init_decls first
decls_of _ = []

-- the expressions of the first part of a `for`
abbrev pub init_exprs : ForInit → List Expr
init_exprs (tree.DeclsFirst ds) = []
init_exprs (tree.ExprsFirst es) = expr_list es

abbrev pub first_of : Stmt → List Expr
first_of (tree.StmtAt at names (tree.For first test next b)) = init_exprs first
first_of _ = []

-- the test of a `for`
abbrev pub test_of : Stmt → OptionalExpr
test_of (tree.StmtAt at names (tree.For first test next b)) = test
test_of _ = tree.NoExpr

-- the expressions of its last part
abbrev pub last_of : Stmt → List Expr
last_of (tree.StmtAt at names (tree.For first test next b)) = expr_list next
last_of _ = []

-- the branches of an `if`
abbrev pub then_of : Stmt → Stmts
then_of (tree.StmtAt at names (tree.If e a b)) = a
then_of _ = tree.NoStmts

abbrev pub else_of : Stmt → Stmts
else_of (tree.StmtAt at names (tree.If e a b)) = b
else_of _ = tree.NoStmts

-- the body of a loop
abbrev pub loop_body : Stmt → Stmts
loop_body (tree.StmtAt at names (tree.While e b)) = b
loop_body (tree.StmtAt at names (tree.DoWhile e b)) = b
loop_body (tree.StmtAt at names (tree.For first test next b)) = b
loop_body (tree.StmtAt at names (tree.ForIn is_declared x e b)) = b
loop_body _ = tree.NoStmts

-- the variable of a `for-in`
abbrev pub variable_of : Stmt → List ℕ
variable_of (tree.StmtAt at names (tree.ForIn is_declared x e b)) = x
variable_of _ = []

-- a `while` or a `do` at its next pass, and else a `for` of these parts
abbrev pub loop_of : Stmt → Loop
loop_of (tree.StmtAt at names (tree.While e b)) = WhileLoop e (stmt_list b)
loop_of (tree.StmtAt at names (tree.DoWhile e b)) = DoLoop (stmt_list b) e
loop_of s = ForLoop (test_of s) (last_of s) (stmt_list (loop_body s))

-- the clauses of a `switch`
abbrev pub clauses_of : Stmt → List Case
clauses_of (tree.StmtAt at names (tree.Switch e cs)) = clause_list cs
clauses_of _ = []

-- the parts of a `try`
abbrev pub try_of : Stmt → Stmts
try_of (tree.StmtAt at names (tree.Try a c b)) = a
try_of _ = tree.NoStmts

abbrev pub catch_of : Stmt → Catch
catch_of (tree.StmtAt at names (tree.Try a c b)) = c
catch_of _ = tree.NoCatch

abbrev pub finally_of : Stmt → OptionalBlock
finally_of (tree.StmtAt at names (tree.Try a c b)) = b
finally_of _ = tree.NoBlock

abbrev pub catch_body : Catch → Stmts
catch_body tree.NoCatch = tree.NoStmts
catch_body (tree.CatchAs x b) = b

abbrev pub finally_body : OptionalBlock → Stmts
finally_body tree.NoBlock = tree.NoStmts
finally_body (tree.SomeBlock b) = b

-- ## Functions

abbrev pub body_of : Fun → Stmts
body_of (tree.FunAt at names name params body funs) = body

abbrev pub funs_of : Fun → Funs
funs_of (tree.FunAt at names name params body funs) = funs

-- ## Blocks

-- the statements of a block
abbrev pub block_list : Forest → Block → List Stmt
block_list f (block.Then id) = stmt_list (then_of (stmt_at f id))
block_list f (block.Else id) = stmt_list (else_of (stmt_at f id))
block_list f (block.Loop id) = stmt_list (loop_body (stmt_at f id))
block_list f (block.Try id) = stmt_list (try_of (stmt_at f id))
block_list f (block.Catch id) = stmt_list (catch_body (catch_of (stmt_at f id)))
block_list f (block.Finally id) = stmt_list (finally_body (finally_of (stmt_at f id)))
block_list f (block.Clauses id n) = bodies (drop n (clauses_of (stmt_at f id)))
block_list f (block.Whole id) = stmt_list (body_of (fun_at f id))
block_list f (block.Body id) = without_directive (stmt_list (body_of (fun_at f id)))

-- a block of a tree
abbrev pub IsBlock : Forest → Block → Type 0
IsBlock f (block.Then id) = IsStmt f id
IsBlock f (block.Else id) = IsStmt f id
IsBlock f (block.Loop id) = IsStmt f id
IsBlock f (block.Try id) = IsStmt f id
IsBlock f (block.Catch id) = IsStmt f id
IsBlock f (block.Finally id) = IsStmt f id
IsBlock f (block.Clauses id n) = IsStmt f id
IsBlock f (block.Body id) = IsFun f id
IsBlock f (block.Whole id) = IsFun f id

-- ## Lists by their ids

-- the expression at a place of a list, none from its end on
abbrev pub HasExpr : Forest → List Expr → ℕ → Option ExprId → Type 0
HasExpr f l n o = MatchOption o (drop n l ≡ []) (λ e. IsExpr f e × (n + 1 < 2 ^ 64) × (drop n l ≡ expr_at f e ∷ drop (n + 1) l))

-- the statement at a place of a list, none from its end on
abbrev pub HasStmt : Forest → List Stmt → ℕ → Option StmtId → Type 0
HasStmt f l n o = MatchOption o (drop n l ≡ []) (λ i. IsStmt f i × (n + 1 < 2 ^ 64) × (drop n l ≡ stmt_at f i ∷ drop (n + 1) l))

-- the statement at a place of a block, and those after it
abbrev pub HasListed : Forest → Block → ℕ → Option Listed → Type 0
HasListed f b n o = MatchOption o (drop n (block_list f b) ≡ [])
    (λ l. IsStmt f l.id × IsBlock f l.block × (drop n (block_list f b) ≡ stmt_at f l.id ∷ drop l.next (block_list f l.block)))
