-- The parts of a node, and the number of nodes of a plain tree.
use Rattle.std.specs.Prelude.{ℕ, ◌+◌, List, [], ◌∷◌, ◌++◌, Option, Some, None, map, option_to_list}
use Rattle.std.specs.List.{flat_map}
use Rattle.std.specs.declared.vec.Vec.{Vec}
use Rattle.std.specs.declared.alloc.Global.{Global}
use Rattle.js_tree.specs.declared.nodes.StmtId.{StmtId}
use Rattle.js_tree.specs.declared.nodes.Decl.{Decl}
use Rattle.js_tree.specs.declared.nodes.ForInit.{ForInit as InitNode}
use Rattle.js_tree.specs.declared.nodes.ForInit.TheVariants as init
use Rattle.js_tree.specs.declared.nodes.Clause.{Clause}
use Rattle.js_tree.specs.declared.nodes.Expr.{Expr as ExprNode}
use Rattle.js_tree.specs.declared.nodes.Expr.TheVariants as expr
use Rattle.js_tree.specs.declared.nodes.Stmt.{Stmt as StmtNode}
use Rattle.js_tree.specs.declared.nodes.Stmt.TheVariants as stmt
use Rattle.js_tree.specs.declared.nodes.Fun.{Fun as FunNode}
use Rattle.js_tree.specs.declared.nodes.Part.{Part}
use Rattle.js_tree.specs.declared.nodes.Part.TheVariants as part
use Rattle.js_tree.specs.Plain.{Expr, ExprAt, ExprForm, Array, Object, Function, Dot, Sub, Call, New, Step, Unary, Binary, And, Or, Cond, Assign, Comma, Exprs, NoExprs, AndExpr, OptionalExpr, NoExpr, SomeExpr, Properties, NoProperties, AndProperty, Decls, NoDecls, AndDecl, ForInit, DeclsFirst, ExprsFirst, Stmt, StmtAt, StmtForm, Var, Only, If, While, DoWhile, For, ForIn, Return, Throw, With, Switch, Try, Label, Stmts, NoStmts, AndStmt, OptionalBlock, NoBlock, SomeBlock, Catch, NoCatch, CatchAs, Clauses, NoClauses, AndClause, Fun, FunAt, Funs, NoFuns, AndFun}
use Rattle.js_tree.specs.Forest.{Forest, IsExpr, IsStmt, IsFun, expr_at, stmt_at, fun_at}

-- a plain tree of any kind
pub data Spot : Type 0 where
  AnExpr : Expr → Spot
  AStmt : Stmt → Spot
  AFun : Fun → Spot

-- the plain tree of a part
abbrev pub spot_at : Forest → Part → Spot
spot_at f (part.Expr id) = AnExpr (expr_at f id)
spot_at f (part.Stmt id) = AStmt (stmt_at f id)
spot_at f (part.Fun id) = AFun (fun_at f id)

-- the part is in the forest
abbrev pub IsIn : Forest → Part → Type 0
IsIn f (part.Expr id) = IsExpr f id
IsIn f (part.Stmt id) = IsStmt f id
IsIn f (part.Fun id) = IsFun f id

-- the parts of a node in the order of the text; a function's declarations come first
abbrev pub decl_parts : Decl → List Part
decl_parts d = map part.Expr (option_to_list d.init)

abbrev pub init_parts : InitNode → List Part
init_parts (init.Var decls) = flat_map decl_parts decls.items
init_parts (init.List ids) = map part.Expr ids.items

abbrev pub clause_parts : Clause → List Part
clause_parts c = map part.Expr (option_to_list c.test) ++ map part.Stmt c.body.items

abbrev pub catch_parts : Option (List ℕ × Vec StmtId Global) → List Part
catch_parts None = []
catch_parts (Some c) = map part.Stmt c.1.items

abbrev pub block_parts : Option (Vec StmtId Global) → List Part
block_parts None = []
block_parts (Some ids) = map part.Stmt ids.items

abbrev pub expr_parts : ExprNode → List Part
expr_parts (expr.Array ids) = map part.Expr ids.items
expr_parts (expr.Object ps) = map (λ p. part.Expr p.1) ps.items
expr_parts (expr.Function id) = part.Fun id ∷ []
expr_parts (expr.Dot e text) = part.Expr e ∷ []
expr_parts (expr.Sub a b) = part.Expr a ∷ part.Expr b ∷ []
expr_parts (expr.Call e ids) = part.Expr e ∷ map part.Expr ids.items
expr_parts (expr.New e ids) = part.Expr e ∷ map part.Expr ids.items
expr_parts (expr.Step op e) = part.Expr e ∷ []
expr_parts (expr.Unary op e) = part.Expr e ∷ []
expr_parts (expr.Binary op a b) = part.Expr a ∷ part.Expr b ∷ []
expr_parts (expr.And a b) = part.Expr a ∷ part.Expr b ∷ []
expr_parts (expr.Or a b) = part.Expr a ∷ part.Expr b ∷ []
expr_parts (expr.Cond a b c) = part.Expr a ∷ part.Expr b ∷ part.Expr c ∷ []
expr_parts (expr.Assign op a b) = part.Expr a ∷ part.Expr b ∷ []
expr_parts (expr.Comma a b) = part.Expr a ∷ part.Expr b ∷ []
expr_parts _ = []

abbrev pub stmt_parts : StmtNode → List Part
stmt_parts (stmt.Var decls) = flat_map decl_parts decls.items
stmt_parts (stmt.Expr e) = part.Expr e ∷ []
stmt_parts (stmt.If e a b) = part.Expr e ∷ (map part.Stmt a.items ++ map part.Stmt b.items)
stmt_parts (stmt.While e body) = part.Expr e ∷ map part.Stmt body.items
stmt_parts (stmt.DoWhile e body) = map part.Stmt body.items ++ part.Expr e ∷ []
stmt_parts (stmt.For first test next body) = init_parts first ++ (map part.Expr (option_to_list test) ++ (map part.Expr next.items ++ map part.Stmt body.items))
stmt_parts (stmt.ForIn declared name e body) = part.Expr e ∷ map part.Stmt body.items
stmt_parts (stmt.Return e) = map part.Expr (option_to_list e)
stmt_parts (stmt.Throw e) = part.Expr e ∷ []
stmt_parts (stmt.With e body) = part.Expr e ∷ map part.Stmt body.items
stmt_parts (stmt.Switch e clauses) = part.Expr e ∷ flat_map clause_parts clauses.items
stmt_parts (stmt.Try body caught last) = map part.Stmt body.items ++ (catch_parts caught ++ block_parts last)
stmt_parts (stmt.Label name s) = part.Stmt s ∷ []
stmt_parts _ = []

abbrev pub fun_parts : FunNode → List Part
fun_parts node = map part.Fun node.funs.items ++ map part.Stmt node.body.items

-- the same of plain trees
abbrev pub exprs_spots : Exprs → List Spot
exprs_spots NoExprs = []
exprs_spots (AndExpr xs x) = exprs_spots xs ++ AnExpr x ∷ []

abbrev pub stmts_spots : Stmts → List Spot
stmts_spots NoStmts = []
stmts_spots (AndStmt xs x) = stmts_spots xs ++ AStmt x ∷ []

abbrev pub funs_spots : Funs → List Spot
funs_spots NoFuns = []
funs_spots (AndFun xs x) = funs_spots xs ++ AFun x ∷ []

abbrev pub optional_spots : OptionalExpr → List Spot
optional_spots NoExpr = []
optional_spots (SomeExpr e) = AnExpr e ∷ []

abbrev pub properties_spots : Properties → List Spot
properties_spots NoProperties = []
properties_spots (AndProperty ps key e) = properties_spots ps ++ AnExpr e ∷ []

abbrev pub decls_spots : Decls → List Spot
decls_spots NoDecls = []
decls_spots (AndDecl ds name at e) = decls_spots ds ++ optional_spots e

abbrev pub init_spots : ForInit → List Spot
init_spots (DeclsFirst ds) = decls_spots ds
init_spots (ExprsFirst xs) = exprs_spots xs

abbrev pub clauses_spots : Clauses → List Spot
clauses_spots NoClauses = []
clauses_spots (AndClause cs test body) = clauses_spots cs ++ (optional_spots test ++ stmts_spots body)

abbrev pub catch_spots : Catch → List Spot
catch_spots NoCatch = []
catch_spots (CatchAs name body) = stmts_spots body

abbrev pub block_spots : OptionalBlock → List Spot
block_spots NoBlock = []
block_spots (SomeBlock body) = stmts_spots body

abbrev pub form_spots : ExprForm → List Spot
form_spots (Array xs) = exprs_spots xs
form_spots (Object ps) = properties_spots ps
form_spots (Function g) = AFun g ∷ []
form_spots (Dot e text) = AnExpr e ∷ []
form_spots (Sub a b) = AnExpr a ∷ AnExpr b ∷ []
form_spots (Call e xs) = AnExpr e ∷ exprs_spots xs
form_spots (New e xs) = AnExpr e ∷ exprs_spots xs
form_spots (Step op e) = AnExpr e ∷ []
form_spots (Unary op e) = AnExpr e ∷ []
form_spots (Binary op a b) = AnExpr a ∷ AnExpr b ∷ []
form_spots (And a b) = AnExpr a ∷ AnExpr b ∷ []
form_spots (Or a b) = AnExpr a ∷ AnExpr b ∷ []
form_spots (Cond a b c) = AnExpr a ∷ AnExpr b ∷ AnExpr c ∷ []
form_spots (Assign op a b) = AnExpr a ∷ AnExpr b ∷ []
form_spots (Comma a b) = AnExpr a ∷ AnExpr b ∷ []
form_spots _ = []

abbrev pub stmt_form_spots : StmtForm → List Spot
stmt_form_spots (Var ds) = decls_spots ds
stmt_form_spots (Only e) = AnExpr e ∷ []
stmt_form_spots (If e a b) = AnExpr e ∷ (stmts_spots a ++ stmts_spots b)
stmt_form_spots (While e body) = AnExpr e ∷ stmts_spots body
stmt_form_spots (DoWhile e body) = stmts_spots body ++ AnExpr e ∷ []
stmt_form_spots (For first test next body) = init_spots first ++ (optional_spots test ++ (exprs_spots next ++ stmts_spots body))
stmt_form_spots (ForIn declared name e body) = AnExpr e ∷ stmts_spots body
stmt_form_spots (Return e) = optional_spots e
stmt_form_spots (Throw e) = AnExpr e ∷ []
stmt_form_spots (With e body) = AnExpr e ∷ stmts_spots body
stmt_form_spots (Switch e cs) = AnExpr e ∷ clauses_spots cs
stmt_form_spots (Try body caught last) = stmts_spots body ++ (catch_spots caught ++ block_spots last)
stmt_form_spots (Label name s) = AStmt s ∷ []
stmt_form_spots _ = []

abbrev pub parts_of : Spot → List Spot
parts_of (AnExpr (ExprAt at names form)) = form_spots form
parts_of (AStmt (StmtAt at names form)) = stmt_form_spots form
parts_of (AFun (FunAt at names name params body funs)) = funs_spots funs ++ stmts_spots body

-- the number of nodes
unfoldable mutual
  pub expr_size : Expr → ℕ
  expr_size (ExprAt at names form) = 1 + form_size form

  pub form_size : ExprForm → ℕ
  form_size (Array xs) = exprs_size xs
  form_size (Object ps) = properties_size ps
  form_size (Function g) = fun_size g
  form_size (Dot e text) = expr_size e
  form_size (Sub a b) = expr_size a + expr_size b
  form_size (Call e xs) = expr_size e + exprs_size xs
  form_size (New e xs) = expr_size e + exprs_size xs
  form_size (Step op e) = expr_size e
  form_size (Unary op e) = expr_size e
  form_size (Binary op a b) = expr_size a + expr_size b
  form_size (And a b) = expr_size a + expr_size b
  form_size (Or a b) = expr_size a + expr_size b
  form_size (Cond a b c) = expr_size a + expr_size b + expr_size c
  form_size (Assign op a b) = expr_size a + expr_size b
  form_size (Comma a b) = expr_size a + expr_size b
  form_size _ = 0

  pub exprs_size : Exprs → ℕ
  exprs_size NoExprs = 0
  exprs_size (AndExpr xs x) = exprs_size xs + expr_size x

  pub optional_size : OptionalExpr → ℕ
  optional_size NoExpr = 0
  optional_size (SomeExpr e) = expr_size e

  pub properties_size : Properties → ℕ
  properties_size NoProperties = 0
  properties_size (AndProperty ps key e) = properties_size ps + expr_size e

  pub decls_size : Decls → ℕ
  decls_size NoDecls = 0
  decls_size (AndDecl ds name at e) = decls_size ds + optional_size e

  pub init_size : ForInit → ℕ
  init_size (DeclsFirst ds) = decls_size ds
  init_size (ExprsFirst xs) = exprs_size xs

  pub stmt_size : Stmt → ℕ
  stmt_size (StmtAt at names form) = 1 + stmt_form_size form

  pub stmt_form_size : StmtForm → ℕ
  stmt_form_size (Var ds) = decls_size ds
  stmt_form_size (Only e) = expr_size e
  stmt_form_size (If e a b) = expr_size e + stmts_size a + stmts_size b
  stmt_form_size (While e body) = expr_size e + stmts_size body
  stmt_form_size (DoWhile e body) = stmts_size body + expr_size e
  stmt_form_size (For first test next body) = init_size first + optional_size test + exprs_size next + stmts_size body
  stmt_form_size (ForIn declared name e body) = expr_size e + stmts_size body
  stmt_form_size (Return e) = optional_size e
  stmt_form_size (Throw e) = expr_size e
  stmt_form_size (With e body) = expr_size e + stmts_size body
  stmt_form_size (Switch e cs) = expr_size e + clauses_size cs
  stmt_form_size (Try body caught last) = stmts_size body + catch_size caught + block_size last
  stmt_form_size (Label name s) = stmt_size s
  stmt_form_size _ = 0

  pub stmts_size : Stmts → ℕ
  stmts_size NoStmts = 0
  stmts_size (AndStmt xs x) = stmts_size xs + stmt_size x

  pub block_size : OptionalBlock → ℕ
  block_size NoBlock = 0
  block_size (SomeBlock body) = stmts_size body

  pub catch_size : Catch → ℕ
  catch_size NoCatch = 0
  catch_size (CatchAs name body) = stmts_size body

  pub clauses_size : Clauses → ℕ
  clauses_size NoClauses = 0
  clauses_size (AndClause cs test body) = clauses_size cs + optional_size test + stmts_size body

  pub fun_size : Fun → ℕ
  fun_size (FunAt at names name params body funs) = 1 + funs_size funs + stmts_size body

  pub funs_size : Funs → ℕ
  funs_size NoFuns = 0
  funs_size (AndFun xs x) = funs_size xs + fun_size x

abbrev pub spot_size : Spot → ℕ
spot_size (AnExpr e) = expr_size e
spot_size (AStmt s) = stmt_size s
spot_size (AFun g) = fun_size g

-- of all together
abbrev pub spots_size : List Spot → ℕ
spots_size [] = 0
spots_size (s ∷ ss) = spot_size s + spots_size ss
