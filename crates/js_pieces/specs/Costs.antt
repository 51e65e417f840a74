-- How many steps the walk takes at most, by the rows of the grammar; a token takes two.
use Rattle.std.specs.Prelude.{ℕ, ◌+◌, List, [], ◌∷◌, Option, Some, None}
use Rattle.js_tree.specs.declared.nodes.StepOp.TheVariants as step
use Rattle.js_tree.specs.Plain.{
  Expr,
  ExprAt,
  ExprForm,
  Num,
  Str,
  Name,
  Constant,
  Array,
  Object,
  Function,
  Dot,
  Sub,
  Call,
  New,
  Step,
  Unary,
  Binary,
  And,
  Or,
  Cond,
  Assign,
  Comma,
  Exprs,
  NoExprs,
  AndExpr,
  OptionalExpr,
  NoExpr,
  SomeExpr,
  Properties,
  NoProperties,
  AndProperty,
  Decls,
  NoDecls,
  AndDecl,
  ForInit,
  DeclsFirst,
  ExprsFirst,
  Stmt,
  StmtAt,
  StmtForm,
  Var,
  Only,
  If,
  While,
  DoWhile,
  For,
  ForIn,
  Continue,
  Break,
  Return,
  Throw,
  With,
  Switch,
  Try,
  Label,
  Stmts,
  NoStmts,
  AndStmt,
  OptionalBlock,
  NoBlock,
  SomeBlock,
  Catch,
  NoCatch,
  CatchAs,
  Clauses,
  NoClauses,
  AndClause,
  Fun,
  FunAt,
  Funs,
  NoFuns,
  AndFun,
}

-- the sum
abbrev pub total : List ℕ → ℕ
total [] = 0
total (n ∷ ns) = n + total ns

-- a piece between two marks
abbrev pub enclosed_cost : ℕ → ℕ
enclosed_cost n = total (2 ∷ (1 + n) ∷ 2 ∷ [])

-- a name, where there is one
abbrev pub label_cost : Option (List ℕ) → ℕ
label_cost None = 0
label_cost (Some label) = total (2 ∷ [])

-- names between commas
abbrev pub names_cost : List (List ℕ) → ℕ
names_cost [] = 0
names_cost (text ∷ texts) = 5 + names_cost texts

unfoldable mutual
  pub expr_cost : Expr → ℕ
  expr_cost (ExprAt at names form) = 4 + form_cost form

  pub form_cost : ExprForm → ℕ
  form_cost (Num text) = total (2 ∷ [])
  form_cost (Str text) = total (2 ∷ [])
  form_cost (Name text) = total (2 ∷ [])
  form_cost (Constant w) = total (2 ∷ [])
  form_cost (Array xs) = total (2 ∷ (1 + exprs_cost xs) ∷ 2 ∷ [])
  form_cost (Object ps) = total (2 ∷ (1 + properties_cost ps) ∷ 2 ∷ [])
  form_cost (Function g) = total ((1 + fun_cost g) ∷ [])
  form_cost (Dot e text) = total ((1 + expr_cost e) ∷ 2 ∷ 2 ∷ [])
  form_cost (Sub a b) = total ((1 + expr_cost a) ∷ 2 ∷ (1 + expr_cost b) ∷ 2 ∷ [])
  form_cost (Call e xs) = total ((1 + expr_cost e) ∷ 2 ∷ (1 + exprs_cost xs) ∷ 2 ∷ [])
  form_cost (New e xs) = total (2 ∷ (1 + expr_cost e) ∷ 2 ∷ (1 + exprs_cost xs) ∷ 2 ∷ [])
  form_cost (Step step.PreInc e) = total (2 ∷ (1 + expr_cost e) ∷ [])
  form_cost (Step step.PreDec e) = total (2 ∷ (1 + expr_cost e) ∷ [])
  form_cost (Step step.PostInc e) = total ((1 + expr_cost e) ∷ 2 ∷ [])
  form_cost (Step step.PostDec e) = total ((1 + expr_cost e) ∷ 2 ∷ [])
  form_cost (Unary op e) = total (2 ∷ (1 + expr_cost e) ∷ [])
  form_cost (Binary op a b) = total ((1 + expr_cost a) ∷ 2 ∷ (1 + expr_cost b) ∷ [])
  form_cost (And a b) = total ((1 + expr_cost a) ∷ 2 ∷ (1 + expr_cost b) ∷ [])
  form_cost (Or a b) = total ((1 + expr_cost a) ∷ 2 ∷ (1 + expr_cost b) ∷ [])
  form_cost (Cond a b c) = total ((1 + expr_cost a) ∷ 2 ∷ (1 + expr_cost b) ∷ 2 ∷ (1 + expr_cost c) ∷ [])
  form_cost (Assign op a b) = total ((1 + expr_cost a) ∷ 2 ∷ (1 + expr_cost b) ∷ [])
  form_cost (Comma a b) = total ((1 + expr_cost a) ∷ 2 ∷ (1 + expr_cost b) ∷ [])

  -- each with its comma, and one step more
  pub exprs_cost : Exprs → ℕ
  exprs_cost NoExprs = 0
  exprs_cost (AndExpr xs x) = exprs_cost xs + (expr_cost x + 4)

  pub properties_cost : Properties → ℕ
  properties_cost NoProperties = 0
  properties_cost (AndProperty ps key e) = properties_cost ps + (expr_cost e + 8)

  pub decls_cost : Decls → ℕ
  decls_cost NoDecls = 0
  decls_cost (AndDecl ds text at e) = decls_cost ds + (value_cost e + 6)

  pub value_cost : OptionalExpr → ℕ
  value_cost NoExpr = 0
  value_cost (SomeExpr e) = total (2 ∷ (1 + expr_cost e) ∷ [])

  pub optional_cost : OptionalExpr → ℕ
  optional_cost NoExpr = 0
  optional_cost (SomeExpr e) = total ((1 + expr_cost e) ∷ [])

  pub init_cost : ForInit → ℕ
  init_cost (DeclsFirst ds) = total (2 ∷ (1 + decls_cost ds) ∷ [])
  init_cost (ExprsFirst xs) = total ((1 + exprs_cost xs) ∷ [])

  pub stmt_cost : Stmt → ℕ
  stmt_cost (StmtAt at names form) = stmt_form_cost form

  pub stmt_form_cost : StmtForm → ℕ
  stmt_form_cost (Var ds) = total (2 ∷ (1 + decls_cost ds) ∷ 2 ∷ [])
  stmt_form_cost (Only e) = total ((1 + expr_cost e) ∷ 2 ∷ [])
  stmt_form_cost (If e a b) = total (2 ∷ (1 + enclosed_cost (expr_cost e)) ∷ (1 + enclosed_cost (stmts_cost a)) ∷ (1 + (8 + stmts_cost b)) ∷ [])
  stmt_form_cost (While e body) = total (2 ∷ (1 + enclosed_cost (expr_cost e)) ∷ (1 + enclosed_cost (stmts_cost body)) ∷ [])
  stmt_form_cost (DoWhile e body) = total (2 ∷ (1 + enclosed_cost (stmts_cost body)) ∷ 2 ∷ (1 + enclosed_cost (expr_cost e)) ∷ 2 ∷ [])
  stmt_form_cost (For init test next body) = total (2 ∷ 2 ∷ (1 + init_cost init) ∷ 2 ∷ (1 + optional_cost test) ∷ 2 ∷ (1 + exprs_cost next) ∷ 2 ∷ (1 + enclosed_cost (stmts_cost body)) ∷ [])
  stmt_form_cost (ForIn declared text e body) = total (2 ∷ 2 ∷ 3 ∷ 2 ∷ 2 ∷ (1 + expr_cost e) ∷ 2 ∷ (1 + enclosed_cost (stmts_cost body)) ∷ [])
  stmt_form_cost (Continue label) = total (2 ∷ (1 + label_cost label) ∷ 2 ∷ [])
  stmt_form_cost (Break label) = total (2 ∷ (1 + label_cost label) ∷ 2 ∷ [])
  stmt_form_cost (Return e) = total (2 ∷ (1 + optional_cost e) ∷ 2 ∷ [])
  stmt_form_cost (Throw e) = total (2 ∷ (1 + expr_cost e) ∷ 2 ∷ [])
  stmt_form_cost (With e body) = total (2 ∷ (1 + enclosed_cost (expr_cost e)) ∷ (1 + enclosed_cost (stmts_cost body)) ∷ [])
  stmt_form_cost (Switch e cs) = total (2 ∷ (1 + enclosed_cost (expr_cost e)) ∷ 2 ∷ (1 + clauses_cost cs) ∷ 2 ∷ [])
  stmt_form_cost (Try body caught last) = total (2 ∷ (1 + enclosed_cost (stmts_cost body)) ∷ (1 + catch_cost caught) ∷ (1 + last_cost last) ∷ [])
  stmt_form_cost (Label text s) = total (2 ∷ 2 ∷ (1 + stmt_cost s) ∷ [])

  pub stmts_cost : Stmts → ℕ
  stmts_cost NoStmts = 0
  stmts_cost (AndStmt ss s) = stmts_cost ss + (stmt_cost s + 2)

  pub catch_cost : Catch → ℕ
  catch_cost NoCatch = 0
  catch_cost (CatchAs text body) = total (2 ∷ 2 ∷ 2 ∷ 2 ∷ (1 + enclosed_cost (stmts_cost body)) ∷ [])

  pub last_cost : OptionalBlock → ℕ
  last_cost NoBlock = 0
  last_cost (SomeBlock body) = total (2 ∷ (1 + enclosed_cost (stmts_cost body)) ∷ [])

  pub clauses_cost : Clauses → ℕ
  clauses_cost NoClauses = 0
  clauses_cost (AndClause cs test body) = clauses_cost cs + (test_cost test + stmts_cost body + 5)

  pub test_cost : OptionalExpr → ℕ
  test_cost NoExpr = total (2 ∷ [])
  test_cost (SomeExpr e) = total (2 ∷ (1 + expr_cost e) ∷ [])

  pub fun_cost : Fun → ℕ
  fun_cost (FunAt at names own params body funs) = total (2 ∷ (1 + label_cost own) ∷ 2 ∷ (1 + names_cost params) ∷ 2 ∷ 2 ∷ (1 + funs_cost funs) ∷ (1 + stmts_cost body) ∷ 2 ∷ [])

  pub funs_cost : Funs → ℕ
  funs_cost NoFuns = 0
  funs_cost (AndFun gs g) = funs_cost gs + (fun_cost g + 2)
