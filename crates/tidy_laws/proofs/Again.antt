-- A tree without places stays as it is when places are forgotten.
use Rattle.std.proofs.Common.{◌≡◌, ℕ, List, [], ◌∷◌, refl}
use Rattle.js_tree.specs.Plain.{Expr, ExprAt, ExprForm, Num, Str, Name, Constant, Array, Object, Function, Dot, Sub, Call, New, Step, Unary, Binary, And, Or, Cond, Assign, Comma, Exprs, NoExprs, AndExpr, OptionalExpr, NoExpr, SomeExpr, Properties, NoProperties, AndProperty, Decls, NoDecls, AndDecl, ForInit, DeclsFirst, ExprsFirst, Stmt, StmtAt, StmtForm, Var, Only, If, While, DoWhile, For, ForIn, Continue, Break, Return, Throw, With, Switch, Try, Label, Stmts, NoStmts, AndStmt, OptionalBlock, NoBlock, SomeBlock, Catch, NoCatch, CatchAs, Clauses, NoClauses, AndClause, Fun, FunAt, Funs, NoFuns, AndFun}
use Rattle.js_grammar.specs.Unplaced.{zeros, unplaced_expr, unplaced_form, unplaced_exprs, unplaced_optional, unplaced_properties, unplaced_decls, unplaced_init, unplaced_stmt, unplaced_stmt_form, unplaced_stmts, unplaced_block, unplaced_catch, unplaced_clauses, unplaced_fun, unplaced_funs}

zeros_again : (xs : List ℕ) → zeros (zeros xs) ≡ zeros xs
zeros_again [] = refl
zeros_again (x ∷ xs) = λ j. 0 ∷ zeros_again xs j

mutual
  unfolding unplaced_exprs

  expr_again : (x : Expr) → unplaced_expr (unplaced_expr x) ≡ unplaced_expr x
  expr_again (ExprAt at names form) = λ j. ExprAt 0 (zeros_again names j) (form_again form j)

  form_again : (x : ExprForm) → unplaced_form (unplaced_form x) ≡ unplaced_form x
  form_again (Num text) = refl
  form_again (Str text) = refl
  form_again (Name text) = refl
  form_again (Constant w) = refl
  form_again (Array xs) = λ j. Array (exprs_again xs j)
  form_again (Object ps) = λ j. Object (properties_again ps j)
  form_again (Function f) = λ j. Function (fun_again f j)
  form_again (Dot e text) = λ j. Dot (expr_again e j) text
  form_again (Sub e i) = λ j. Sub (expr_again e j) (expr_again i j)
  form_again (Call e xs) = λ j. Call (expr_again e j) (exprs_again xs j)
  form_again (New e xs) = λ j. New (expr_again e j) (exprs_again xs j)
  form_again (Step o e) = λ j. Step o (expr_again e j)
  form_again (Unary o e) = λ j. Unary o (expr_again e j)
  form_again (Binary o a c) = λ j. Binary o (expr_again a j) (expr_again c j)
  form_again (And a c) = λ j. And (expr_again a j) (expr_again c j)
  form_again (Or a c) = λ j. Or (expr_again a j) (expr_again c j)
  form_again (Cond a c e) = λ j. Cond (expr_again a j) (expr_again c j) (expr_again e j)
  form_again (Assign o a c) = λ j. Assign o (expr_again a j) (expr_again c j)
  form_again (Comma a c) = λ j. Comma (expr_again a j) (expr_again c j)

  exprs_again : (x : Exprs) → unplaced_exprs (unplaced_exprs x) ≡ unplaced_exprs x
  exprs_again NoExprs = refl
  exprs_again (AndExpr xs x) = λ j. AndExpr (exprs_again xs j) (expr_again x j)

  optional_again : (x : OptionalExpr) → unplaced_optional (unplaced_optional x) ≡ unplaced_optional x
  optional_again NoExpr = refl
  optional_again (SomeExpr e) = λ j. SomeExpr (expr_again e j)

  properties_again : (x : Properties) → unplaced_properties (unplaced_properties x) ≡ unplaced_properties x
  properties_again NoProperties = refl
  properties_again (AndProperty ps key e) = λ j. AndProperty (properties_again ps j) key (expr_again e j)

  decls_again : (x : Decls) → unplaced_decls (unplaced_decls x) ≡ unplaced_decls x
  decls_again NoDecls = refl
  decls_again (AndDecl ds text at e) = λ j. AndDecl (decls_again ds j) text 0 (optional_again e j)

  init_again : (x : ForInit) → unplaced_init (unplaced_init x) ≡ unplaced_init x
  init_again (DeclsFirst ds) = λ j. DeclsFirst (decls_again ds j)
  init_again (ExprsFirst xs) = λ j. ExprsFirst (exprs_again xs j)

  stmt_again : (x : Stmt) → unplaced_stmt (unplaced_stmt x) ≡ unplaced_stmt x
  stmt_again (StmtAt at names form) = λ j. StmtAt 0 (zeros_again names j) (stmt_form_again form j)

  stmt_form_again : (x : StmtForm) → unplaced_stmt_form (unplaced_stmt_form x) ≡ unplaced_stmt_form x
  stmt_form_again (Var ds) = λ j. Var (decls_again ds j)
  stmt_form_again (Only e) = λ j. Only (expr_again e j)
  stmt_form_again (If e a b) = λ j. If (expr_again e j) (stmts_again a j) (stmts_again b j)
  stmt_form_again (While e body) = λ j. While (expr_again e j) (stmts_again body j)
  stmt_form_again (DoWhile e body) = λ j. DoWhile (expr_again e j) (stmts_again body j)
  stmt_form_again (For i test xs body) = λ j. For (init_again i j) (optional_again test j) (exprs_again xs j) (stmts_again body j)
  stmt_form_again (ForIn declared text e body) = λ j. ForIn declared text (expr_again e j) (stmts_again body j)
  stmt_form_again (Continue label) = refl
  stmt_form_again (Break label) = refl
  stmt_form_again (Return e) = λ j. Return (optional_again e j)
  stmt_form_again (Throw e) = λ j. Throw (expr_again e j)
  stmt_form_again (With e body) = λ j. With (expr_again e j) (stmts_again body j)
  stmt_form_again (Switch e cs) = λ j. Switch (expr_again e j) (clauses_again cs j)
  stmt_form_again (Try body caught last) = λ j. Try (stmts_again body j) (catch_again caught j) (block_again last j)
  stmt_form_again (Label text s) = λ j. Label text (stmt_again s j)

  pub stmts_again : (x : Stmts) → unplaced_stmts (unplaced_stmts x) ≡ unplaced_stmts x
  stmts_again NoStmts = refl
  stmts_again (AndStmt ss s) = λ j. AndStmt (stmts_again ss j) (stmt_again s j)

  block_again : (x : OptionalBlock) → unplaced_block (unplaced_block x) ≡ unplaced_block x
  block_again NoBlock = refl
  block_again (SomeBlock ss) = λ j. SomeBlock (stmts_again ss j)

  catch_again : (x : Catch) → unplaced_catch (unplaced_catch x) ≡ unplaced_catch x
  catch_again NoCatch = refl
  catch_again (CatchAs text ss) = λ j. CatchAs text (stmts_again ss j)

  clauses_again : (x : Clauses) → unplaced_clauses (unplaced_clauses x) ≡ unplaced_clauses x
  clauses_again NoClauses = refl
  clauses_again (AndClause cs test ss) = λ j. AndClause (clauses_again cs j) (optional_again test j) (stmts_again ss j)

  fun_again : (x : Fun) → unplaced_fun (unplaced_fun x) ≡ unplaced_fun x
  fun_again (FunAt at names own params body funs) = λ j. FunAt 0 (zeros_again names j) own params (stmts_again body j) (funs_again funs j)

  funs_again : (x : Funs) → unplaced_funs (unplaced_funs x) ≡ unplaced_funs x
  funs_again NoFuns = refl
  funs_again (AndFun fs f) = λ j. AndFun (funs_again fs j) (fun_again f j)
