-- Whether `new` or the operator `in` stands in a tree does not depend on places.
use Rattle.std.proofs.Common.{◌≡◌, refl, subst, sym}
use Rattle.js_tree.specs.Plain.{Expr, ExprAt, ExprForm, Num, Str, Name, Constant, Array, Object, Function, Dot, Sub, Call, New, Step, Unary, Binary, And, Or, Cond, Assign, Comma, Exprs, NoExprs, AndExpr, OptionalExpr, NoExpr, SomeExpr, Properties, NoProperties, AndProperty, Decls, NoDecls, AndDecl, ForInit, DeclsFirst, ExprsFirst, Stmt, StmtAt, StmtForm, Var, Only, If, While, DoWhile, For, ForIn, Continue, Break, Return, Throw, With, Switch, Try, Label, Stmts, NoStmts, AndStmt, OptionalBlock, NoBlock, SomeBlock, Catch, NoCatch, CatchAs, Clauses, NoClauses, AndClause, Fun, FunAt, Funs, NoFuns, AndFun}
use Rattle.js_grammar.specs.Unplaced.{unplaced_expr, unplaced_form, unplaced_exprs, unplaced_optional, unplaced_properties, unplaced_decls, unplaced_init, unplaced_stmt, unplaced_stmt_form, unplaced_stmts, unplaced_block, unplaced_catch, unplaced_clauses, unplaced_fun, unplaced_funs}
use Rattle.tidy_laws.specs.Tame.{IsNotIn, TameExpr, TameForm, TameExprs, TameOptional, TameProperties, TameDecls, TameInit, TameStmt, TameStmtForm, TameStmts, TameBlock, TameCatch, TameClauses, TameFun, TameFuns}

mutual
  unfolding unplaced_exprs TameExpr

  expr_tame : (x : Expr) → TameExpr (unplaced_expr x) ≡ TameExpr x
  expr_tame (ExprAt at names form) = λ j. form_tame form j

  form_tame : (x : ExprForm) → TameForm (unplaced_form x) ≡ TameForm x
  form_tame (Num text) = refl
  form_tame (Str text) = refl
  form_tame (Name text) = refl
  form_tame (Constant w) = refl
  form_tame (Array xs) = λ j. exprs_tame xs j
  form_tame (Object ps) = λ j. properties_tame ps j
  form_tame (Function f) = λ j. fun_tame f j
  form_tame (Dot e text) = λ j. expr_tame e j
  form_tame (Sub e i) = λ j. expr_tame e j × expr_tame i j
  form_tame (Call e xs) = λ j. expr_tame e j × exprs_tame xs j
  form_tame (New e xs) = refl
  form_tame (Step op e) = λ j. expr_tame e j
  form_tame (Unary op e) = λ j. expr_tame e j
  form_tame (Binary op a b) = λ j. IsNotIn op × expr_tame a j × expr_tame b j
  form_tame (And a b) = λ j. expr_tame a j × expr_tame b j
  form_tame (Or a b) = λ j. expr_tame a j × expr_tame b j
  form_tame (Cond a b c) = λ j. expr_tame a j × expr_tame b j × expr_tame c j
  form_tame (Assign op a b) = λ j. expr_tame a j × expr_tame b j
  form_tame (Comma a b) = λ j. expr_tame a j × expr_tame b j

  exprs_tame : (x : Exprs) → TameExprs (unplaced_exprs x) ≡ TameExprs x
  exprs_tame NoExprs = refl
  exprs_tame (AndExpr xs x) = λ j. exprs_tame xs j × expr_tame x j

  optional_tame : (x : OptionalExpr) → TameOptional (unplaced_optional x) ≡ TameOptional x
  optional_tame NoExpr = refl
  optional_tame (SomeExpr e) = λ j. expr_tame e j

  properties_tame : (x : Properties) → TameProperties (unplaced_properties x) ≡ TameProperties x
  properties_tame NoProperties = refl
  properties_tame (AndProperty ps key e) = λ j. properties_tame ps j × expr_tame e j

  decls_tame : (x : Decls) → TameDecls (unplaced_decls x) ≡ TameDecls x
  decls_tame NoDecls = refl
  decls_tame (AndDecl ds text at v) = λ j. decls_tame ds j × optional_tame v j

  init_tame : (x : ForInit) → TameInit (unplaced_init x) ≡ TameInit x
  init_tame (DeclsFirst ds) = λ j. decls_tame ds j
  init_tame (ExprsFirst xs) = λ j. exprs_tame xs j

  stmt_tame : (x : Stmt) → TameStmt (unplaced_stmt x) ≡ TameStmt x
  stmt_tame (StmtAt at names form) = λ j. stmt_form_tame form j

  stmt_form_tame : (x : StmtForm) → TameStmtForm (unplaced_stmt_form x) ≡ TameStmtForm x
  stmt_form_tame (Var ds) = λ j. decls_tame ds j
  stmt_form_tame (Only e) = λ j. expr_tame e j
  stmt_form_tame (If e a b) = λ j. expr_tame e j × stmts_tame a j × stmts_tame b j
  stmt_form_tame (While e body) = λ j. expr_tame e j × stmts_tame body j
  stmt_form_tame (DoWhile e body) = λ j. expr_tame e j × stmts_tame body j
  stmt_form_tame (For init test next body) = λ j. init_tame init j × optional_tame test j × exprs_tame next j × stmts_tame body j
  stmt_form_tame (ForIn declared text e body) = λ j. expr_tame e j × stmts_tame body j
  stmt_form_tame (Continue label) = refl
  stmt_form_tame (Break label) = refl
  stmt_form_tame (Return v) = λ j. optional_tame v j
  stmt_form_tame (Throw e) = λ j. expr_tame e j
  stmt_form_tame (With e body) = λ j. expr_tame e j × stmts_tame body j
  stmt_form_tame (Switch e cs) = λ j. expr_tame e j × clauses_tame cs j
  stmt_form_tame (Try body caught last) = λ j. stmts_tame body j × catch_tame caught j × block_tame last j
  stmt_form_tame (Label text s) = λ j. stmt_tame s j

  stmts_tame : (x : Stmts) → TameStmts (unplaced_stmts x) ≡ TameStmts x
  stmts_tame NoStmts = refl
  stmts_tame (AndStmt ss s) = λ j. stmts_tame ss j × stmt_tame s j

  block_tame : (x : OptionalBlock) → TameBlock (unplaced_block x) ≡ TameBlock x
  block_tame NoBlock = refl
  block_tame (SomeBlock ss) = λ j. stmts_tame ss j

  catch_tame : (x : Catch) → TameCatch (unplaced_catch x) ≡ TameCatch x
  catch_tame NoCatch = refl
  catch_tame (CatchAs text ss) = λ j. stmts_tame ss j

  clauses_tame : (x : Clauses) → TameClauses (unplaced_clauses x) ≡ TameClauses x
  clauses_tame NoClauses = refl
  clauses_tame (AndClause cs test ss) = λ j. clauses_tame cs j × optional_tame test j × stmts_tame ss j

  fun_tame : (x : Fun) → TameFun (unplaced_fun x) ≡ TameFun x
  fun_tame (FunAt at names own params body funs) = λ j. stmts_tame body j × funs_tame funs j

  funs_tame : (x : Funs) → TameFuns (unplaced_funs x) ≡ TameFuns x
  funs_tame NoFuns = refl
  funs_tame (AndFun fs f) = λ j. funs_tame fs j × fun_tame f j

pub same_tame : (p q : Stmts) → unplaced_stmts q ≡ unplaced_stmts p → TameStmts p → TameStmts q
same_tame p q e t = subst (λ (X : Type 0). X) (stmts_tame q) (subst TameStmts (sym e) (subst (λ (X : Type 0). X) (sym (stmts_tame p)) t))
