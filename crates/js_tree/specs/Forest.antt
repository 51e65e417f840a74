-- The plain trees that numbered nodes stand for.
use Rattle.std.specs.Prelude.{◌≡◌, ℕ, ◌+◌, ◌<◌, List, [], ◌∷◌, ◌++◌, length, slice_index_or, Option, Some, None, All}
use Rattle.js_tree.specs.declared.nodes.ExprId.{ExprId}
use Rattle.js_tree.specs.declared.nodes.StmtId.{StmtId}
use Rattle.js_tree.specs.declared.nodes.FunId.{FunId}
use Rattle.js_tree.specs.declared.nodes.Word.TheVariants as word
use Rattle.js_tree.specs.declared.nodes.Decl.{Decl}
use Rattle.js_tree.specs.declared.nodes.ForInit.{ForInit as InitNode}
use Rattle.js_tree.specs.declared.nodes.ForInit.TheVariants as init
use Rattle.js_tree.specs.declared.nodes.Clause.{Clause}
use Rattle.js_tree.specs.declared.nodes.Expr.{Expr as ExprNode}
use Rattle.js_tree.specs.declared.nodes.Expr.TheVariants as expr
use Rattle.js_tree.specs.declared.nodes.Stmt.{Stmt as StmtNode}
use Rattle.js_tree.specs.declared.nodes.Stmt.TheVariants as stmt
use Rattle.js_tree.specs.declared.nodes.Fun.{Fun as FunNode}
use Rattle.std.specs.declared.vec.Vec.{Vec}
use Rattle.std.specs.declared.alloc.Global.{Global}
use Rattle.js_tree.specs.Plain.{
  Expr,
  ExprAt,
  ExprForm,
  Num,
  Str,
  Name,
  Constant,
  Array,
  Object,
  Function,
  Dot,
  Sub,
  Call,
  New,
  Step,
  Unary,
  Binary,
  And,
  Or,
  Cond,
  Assign,
  Comma,
  Exprs,
  NoExprs,
  AndExpr,
  OptionalExpr,
  NoExpr,
  SomeExpr,
  Properties,
  NoProperties,
  AndProperty,
  Decls,
  NoDecls,
  AndDecl,
  ForInit,
  DeclsFirst,
  ExprsFirst,
  Stmt,
  StmtAt,
  StmtForm,
  Var,
  Only,
  If,
  While,
  DoWhile,
  For,
  ForIn,
  Continue,
  Break,
  Return,
  Throw,
  With,
  Switch,
  Try,
  Label,
  Stmts,
  NoStmts,
  AndStmt,
  OptionalBlock,
  NoBlock,
  SomeBlock,
  Catch,
  NoCatch,
  CatchAs,
  Clauses,
  NoClauses,
  AndClause,
  Fun,
  FunAt,
  Funs,
  NoFuns,
  AndFun,
}

-- the trees by their numbers
pub record Forest : Type 0 where
  pub exprs : List Expr
  pub stmts : List Stmt
  pub funs : List Fun

abbrev pub no_trees : Forest
no_trees = record { exprs = []; stmts = []; funs = [] }

-- the numbers of a forest
abbrev pub IsExpr : Forest → ExprId → Type 0
IsExpr f id = id.0 < length f.exprs

abbrev pub IsStmt : Forest → StmtId → Type 0
IsStmt f id = id.0 < length f.stmts

abbrev pub IsFun : Forest → FunId → Type 0
IsFun f id = id.0 < length f.funs

-- the tree with a number
abbrev pub expr_at : Forest → ExprId → Expr
expr_at f id = slice_index_or f.exprs id.0 (ExprAt 0 [] (Constant word.This))

abbrev pub stmt_at : Forest → StmtId → Stmt
stmt_at f id = slice_index_or f.stmts id.0 (StmtAt 0 [] (Var NoDecls))

abbrev pub fun_at : Forest → FunId → Fun
fun_at f id = slice_index_or f.funs id.0 (FunAt 0 [] None [] NoStmts NoFuns)

-- lists of trees, after those that stand before
abbrev pub exprs_more : Forest → Exprs → List ExprId → Exprs
exprs_more f before [] = before
exprs_more f before (id ∷ ids) = exprs_more f (AndExpr before (expr_at f id)) ids

abbrev pub exprs_at : Forest → List ExprId → Exprs
exprs_at f ids = exprs_more f NoExprs ids

abbrev pub stmts_more : Forest → Stmts → List StmtId → Stmts
stmts_more f before [] = before
stmts_more f before (id ∷ ids) = stmts_more f (AndStmt before (stmt_at f id)) ids

abbrev pub stmts_at : Forest → List StmtId → Stmts
stmts_at f ids = stmts_more f NoStmts ids

abbrev pub funs_more : Forest → Funs → List FunId → Funs
funs_more f before [] = before
funs_more f before (id ∷ ids) = funs_more f (AndFun before (fun_at f id)) ids

abbrev pub funs_at : Forest → List FunId → Funs
funs_at f ids = funs_more f NoFuns ids

abbrev pub optional_at : Forest → Option ExprId → OptionalExpr
optional_at f None = NoExpr
optional_at f (Some id) = SomeExpr (expr_at f id)

abbrev pub properties_more : Forest → Properties → List (List ℕ × ExprId) → Properties
properties_more f before [] = before
properties_more f before (p ∷ ps) = properties_more f (AndProperty before p.0 (expr_at f p.1)) ps

abbrev pub properties_at : Forest → List (List ℕ × ExprId) → Properties
properties_at f ps = properties_more f NoProperties ps

abbrev pub decls_more : Forest → Decls → List Decl → Decls
decls_more f before [] = before
decls_more f before (d ∷ ds) = decls_more f (AndDecl before d.name d.at (optional_at f d.init)) ds

abbrev pub decls_at : Forest → List Decl → Decls
decls_at f ds = decls_more f NoDecls ds

abbrev pub init_at : Forest → InitNode → ForInit
init_at f (init.Var decls) = DeclsFirst (decls_at f decls.items)
init_at f (init.List ids) = ExprsFirst (exprs_at f ids.items)

abbrev pub clauses_more : Forest → Clauses → List Clause → Clauses
clauses_more f before [] = before
clauses_more f before (c ∷ cs) = clauses_more f (AndClause before (optional_at f c.test) (stmts_at f c.body.items)) cs

abbrev pub clauses_at : Forest → List Clause → Clauses
clauses_at f cs = clauses_more f NoClauses cs

-- a node as a tree, over the trees of its parts
abbrev pub plain_form : Forest → ExprNode → ExprForm
plain_form f (expr.Num text) = Num text
plain_form f (expr.Str text) = Str text
plain_form f (expr.Name text) = Name text
plain_form f (expr.Word w) = Constant w
plain_form f (expr.Array ids) = Array (exprs_at f ids.items)
plain_form f (expr.Object ps) = Object (properties_at f ps.items)
plain_form f (expr.Function id) = Function (fun_at f id)
plain_form f (expr.Dot e text) = Dot (expr_at f e) text
plain_form f (expr.Sub a b) = Sub (expr_at f a) (expr_at f b)
plain_form f (expr.Call e ids) = Call (expr_at f e) (exprs_at f ids.items)
plain_form f (expr.New e ids) = New (expr_at f e) (exprs_at f ids.items)
plain_form f (expr.Step op e) = Step op (expr_at f e)
plain_form f (expr.Unary op e) = Unary op (expr_at f e)
plain_form f (expr.Binary op a b) = Binary op (expr_at f a) (expr_at f b)
plain_form f (expr.And a b) = And (expr_at f a) (expr_at f b)
plain_form f (expr.Or a b) = Or (expr_at f a) (expr_at f b)
plain_form f (expr.Cond a b c) = Cond (expr_at f a) (expr_at f b) (expr_at f c)
plain_form f (expr.Assign op a b) = Assign op (expr_at f a) (expr_at f b)
plain_form f (expr.Comma a b) = Comma (expr_at f a) (expr_at f b)

abbrev pub plain_expr : Forest → ExprNode → ℕ → List ℕ → Expr
plain_expr f node at names = ExprAt at names (plain_form f node)

abbrev pub catch_at : Forest → Option (List ℕ × Vec StmtId Global) → Catch
catch_at f None = NoCatch
catch_at f (Some c) = CatchAs c.0 (stmts_at f c.1.items)

abbrev pub block_at : Forest → Option (Vec StmtId Global) → OptionalBlock
block_at f None = NoBlock
block_at f (Some ids) = SomeBlock (stmts_at f ids.items)

abbrev pub plain_stmt_form : Forest → StmtNode → StmtForm
plain_stmt_form f (stmt.Var decls) = Var (decls_at f decls.items)
plain_stmt_form f (stmt.Expr e) = Only (expr_at f e)
plain_stmt_form f (stmt.If e a b) = If (expr_at f e) (stmts_at f a.items) (stmts_at f b.items)
plain_stmt_form f (stmt.While e body) = While (expr_at f e) (stmts_at f body.items)
plain_stmt_form f (stmt.DoWhile e body) = DoWhile (expr_at f e) (stmts_at f body.items)
plain_stmt_form f (stmt.For first test next body) = For (init_at f first) (optional_at f test) (exprs_at f next.items) (stmts_at f body.items)
plain_stmt_form f (stmt.ForIn declared name e body) = ForIn declared name (expr_at f e) (stmts_at f body.items)
plain_stmt_form f (stmt.Continue label) = Continue label
plain_stmt_form f (stmt.Break label) = Break label
plain_stmt_form f (stmt.Return e) = Return (optional_at f e)
plain_stmt_form f (stmt.Throw e) = Throw (expr_at f e)
plain_stmt_form f (stmt.With e body) = With (expr_at f e) (stmts_at f body.items)
plain_stmt_form f (stmt.Switch e clauses) = Switch (expr_at f e) (clauses_at f clauses.items)
plain_stmt_form f (stmt.Try body caught last) = Try (stmts_at f body.items) (catch_at f caught) (block_at f last)
plain_stmt_form f (stmt.Label name s) = Label name (stmt_at f s)

abbrev pub plain_stmt : Forest → StmtNode → ℕ → List ℕ → Stmt
plain_stmt f node at names = StmtAt at names (plain_stmt_form f node)

abbrev pub plain_fun : Forest → FunNode → List ℕ → Fun
plain_fun f node names = FunAt node.at names node.name node.params.items (stmts_at f node.body.items) (funs_at f node.funs.items)

-- the parts of a node are in the forest
abbrev pub IsOptional : Forest → Option ExprId → Type 0
IsOptional f None = Unit {0}
IsOptional f (Some id) = IsExpr f id

abbrev pub AreDecls : Forest → List Decl → Type 0
AreDecls f ds = All (λ d. IsOptional f d.init) ds

abbrev pub AreInit : Forest → InitNode → Type 0
AreInit f (init.Var decls) = AreDecls f decls.items
AreInit f (init.List ids) = All (IsExpr f) ids.items

-- of one clause of a `switch`
abbrev pub AreClauseParts : Forest → Clause → Type 0
AreClauseParts f c = IsOptional f c.test × All (IsStmt f) c.body.items

abbrev pub AreCatch : Forest → Option (List ℕ × Vec StmtId Global) → Type 0
AreCatch f None = Unit {0}
AreCatch f (Some c) = All (IsStmt f) c.1.items

abbrev pub AreBlock : Forest → Option (Vec StmtId Global) → Type 0
AreBlock f None = Unit {0}
AreBlock f (Some ids) = All (IsStmt f) ids.items

abbrev pub AreExprParts : Forest → ExprNode → Type 0
AreExprParts f (expr.Array ids) = All (IsExpr f) ids.items
AreExprParts f (expr.Object ps) = All (λ p. IsExpr f p.1) ps.items
AreExprParts f (expr.Function id) = IsFun f id
AreExprParts f (expr.Dot e text) = IsExpr f e
AreExprParts f (expr.Sub a b) = IsExpr f a × IsExpr f b
AreExprParts f (expr.Call e ids) = IsExpr f e × All (IsExpr f) ids.items
AreExprParts f (expr.New e ids) = IsExpr f e × All (IsExpr f) ids.items
AreExprParts f (expr.Step op e) = IsExpr f e
AreExprParts f (expr.Unary op e) = IsExpr f e
AreExprParts f (expr.Binary op a b) = IsExpr f a × IsExpr f b
AreExprParts f (expr.And a b) = IsExpr f a × IsExpr f b
AreExprParts f (expr.Or a b) = IsExpr f a × IsExpr f b
AreExprParts f (expr.Cond a b c) = IsExpr f a × IsExpr f b × IsExpr f c
AreExprParts f (expr.Assign op a b) = IsExpr f a × IsExpr f b
AreExprParts f (expr.Comma a b) = IsExpr f a × IsExpr f b
AreExprParts f _ = Unit {0}

abbrev pub AreStmtParts : Forest → StmtNode → Type 0
AreStmtParts f (stmt.Var decls) = AreDecls f decls.items
AreStmtParts f (stmt.Expr e) = IsExpr f e
AreStmtParts f (stmt.If e a b) = IsExpr f e × All (IsStmt f) a.items × All (IsStmt f) b.items
AreStmtParts f (stmt.While e body) = IsExpr f e × All (IsStmt f) body.items
AreStmtParts f (stmt.DoWhile e body) = IsExpr f e × All (IsStmt f) body.items
AreStmtParts f (stmt.For first test next body) = AreInit f first × IsOptional f test × All (IsExpr f) next.items × All (IsStmt f) body.items
AreStmtParts f (stmt.ForIn declared name e body) = IsExpr f e × All (IsStmt f) body.items
AreStmtParts f (stmt.Return e) = IsOptional f e
AreStmtParts f (stmt.Throw e) = IsExpr f e
AreStmtParts f (stmt.With e body) = IsExpr f e × All (IsStmt f) body.items
AreStmtParts f (stmt.Switch e clauses) = IsExpr f e × All (AreClauseParts f) clauses.items
AreStmtParts f (stmt.Try body caught last) = All (IsStmt f) body.items × AreCatch f caught × AreBlock f last
AreStmtParts f (stmt.Label name s) = IsStmt f s
AreStmtParts f _ = Unit {0}

abbrev pub AreFunParts : Forest → FunNode → Type 0
AreFunParts f node = All (IsStmt f) node.body.items × All (IsFun f) node.funs.items

-- how many nodes there are
abbrev pub size : Forest → ℕ
size f = length f.exprs + length f.stmts + length f.funs

-- what an older forest has, the newer one has too, under the same numbers
pub record Keeps (old new : Forest) : Type 0 where
  pub exprs : (id : ExprId) → IsExpr old id → IsExpr new id × (expr_at new id ≡ expr_at old id)
  pub stmts : (id : StmtId) → IsStmt old id → IsStmt new id × (stmt_at new id ≡ stmt_at old id)
  pub funs : (id : FunId) → IsFun old id → IsFun new id × (fun_at new id ≡ fun_at old id)

-- the new forest has one expression more, which has the next number
pub record AddsExpr (old new : Forest) (x : Expr) (id : ExprId) : Type 0 where
  pub same : new ≡ record old { exprs = old.exprs ++ x ∷ [] }
  pub number : id.0 ≡ length old.exprs
  pub is_in : IsExpr new id
  pub here : expr_at new id ≡ x
  pub kept : Keeps old new
  pub sized : size new ≡ size old + 1

pub record AddsStmt (old new : Forest) (x : Stmt) (id : StmtId) : Type 0 where
  pub same : new ≡ record old { stmts = old.stmts ++ x ∷ [] }
  pub number : id.0 ≡ length old.stmts
  pub is_in : IsStmt new id
  pub here : stmt_at new id ≡ x
  pub kept : Keeps old new
  pub sized : size new ≡ size old + 1

pub record AddsFun (old new : Forest) (x : Fun) (id : FunId) : Type 0 where
  pub same : new ≡ record old { funs = old.funs ++ x ∷ [] }
  pub number : id.0 ≡ length old.funs
  pub is_in : IsFun new id
  pub here : fun_at new id ≡ x
  pub kept : Keeps old new
  pub sized : size new ≡ size old + 1
