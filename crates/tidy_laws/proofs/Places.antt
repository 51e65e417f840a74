-- The tidied text does not depend on places.
use Rattle.std.proofs.Common.{◌≡◌, ℕ, [], ◌∷◌, ◌++◌, Bool, true, false, refl, ap, sym, ◌∙◌}
use Rattle.std.specs.Prelude.{codes, if◌then◌else◌, nat_lt, ◌&&◌, ◌||◌, ◌+◌, map}
use Rattle.js_tree.specs.declared.nodes.StepOp.TheVariants as step
use Rattle.js_tree.specs.Plain.{Expr, ExprAt, ExprForm, Num, Str, Name, Constant, Array, Object, Function, Dot, Sub, Call, New, Step, Unary, Binary, And, Or, Cond, Assign, Comma, Exprs, NoExprs, AndExpr, OptionalExpr, NoExpr, SomeExpr, Properties, NoProperties, AndProperty, Decls, NoDecls, AndDecl, ForInit, DeclsFirst, ExprsFirst, Stmt, StmtAt, StmtForm, Var, Only, If, While, DoWhile, For, ForIn, Continue, Break, Return, Throw, With, Switch, Try, Label, Stmts, NoStmts, AndStmt, OptionalBlock, NoBlock, SomeBlock, Catch, NoCatch, CatchAs, Clauses, NoClauses, AndClause, Fun, FunAt, Funs, NoFuns, AndFun}
use Rattle.js_grammar.specs.Unplaced.{unplaced_expr, unplaced_form, unplaced_exprs, unplaced_optional, unplaced_properties, unplaced_decls, unplaced_init, unplaced_stmt, unplaced_stmt_form, unplaced_stmts, unplaced_block, unplaced_catch, unplaced_clauses, unplaced_fun, unplaced_funs}
use Rattle.js_pieces.specs.declared.levels.TheConstants.{WHOLE, ASSIGNMENT, OR, AND, BIT_OR, UNARY, CHAIN, PRIMARY}
use Rattle.js_print.specs.Spelling.{unary_bytes, binary_bytes, assign_bytes}
use Rattle.js_print.specs.Tidy.{Tokens, flat, mark, name, quoted, enclosed, braced, listed, operator_level, is_enclosed, level_of, label_tokens, var_tokens, is_opening, is_if, else_tokens, expr_tokens, form_tokens, exprs_tokens, properties_tokens, decls_tokens, value_tokens, optional_tokens, init_tokens, stmt_tokens, stmt_form_tokens, stmts_tokens, catch_tokens, last_tokens, clauses_tokens, test_tokens, fun_tokens, funs_tokens, spaced, tidy}

level_same : (form : ExprForm) → level_of (unplaced_form form) ≡ level_of form
unfolding unplaced_exprs
level_same (Num text) = refl
level_same (Str text) = refl
level_same (Name text) = refl
level_same (Constant w) = refl
level_same (Array xs) = refl
level_same (Object ps) = refl
level_same (Function f) = refl
level_same (Dot e text) = refl
level_same (Sub a b) = refl
level_same (Call e xs) = refl
level_same (New e xs) = refl
level_same (Step op e) = refl
level_same (Unary op e) = refl
level_same (Binary op a b) = refl
level_same (And a b) = refl
level_same (Or a b) = refl
level_same (Cond a b c) = refl
level_same (Assign op a b) = refl
level_same (Comma a b) = refl

opening_same : (form : ExprForm) → is_opening (unplaced_form form) ≡ is_opening form
unfolding unplaced_exprs
opening_same (Num text) = refl
opening_same (Str text) = refl
opening_same (Name text) = refl
opening_same (Constant w) = refl
opening_same (Array xs) = refl
opening_same (Object ps) = refl
opening_same (Function f) = refl
opening_same (Dot e text) = refl
opening_same (Sub a b) = refl
opening_same (Call e xs) = refl
opening_same (New e xs) = refl
opening_same (Step op e) = refl
opening_same (Unary op e) = refl
opening_same (Binary op a b) = refl
opening_same (And a b) = refl
opening_same (Or a b) = refl
opening_same (Cond a b c) = refl
opening_same (Assign op a b) = refl
opening_same (Comma a b) = refl

enclosed_same : (first : Bool) (level : ℕ) (form : ExprForm) → is_enclosed first level (unplaced_form form) ≡ is_enclosed first level form
enclosed_same first level form = λ i. nat_lt (level_same form i) level || (first && opening_same form i)

if_same : (s : Stmt) → is_if (unplaced_stmt s) ≡ is_if s
unfolding unplaced_exprs
if_same (StmtAt at names (Var ds)) = refl
if_same (StmtAt at names (Only e)) = refl
if_same (StmtAt at names (If e a b)) = refl
if_same (StmtAt at names (While e body)) = refl
if_same (StmtAt at names (DoWhile e body)) = refl
if_same (StmtAt at names (For init test next body)) = refl
if_same (StmtAt at names (ForIn declared text e body)) = refl
if_same (StmtAt at names (Continue label)) = refl
if_same (StmtAt at names (Break label)) = refl
if_same (StmtAt at names (Return e)) = refl
if_same (StmtAt at names (Throw e)) = refl
if_same (StmtAt at names (With e body)) = refl
if_same (StmtAt at names (Switch e cs)) = refl
if_same (StmtAt at names (Try body caught last)) = refl
if_same (StmtAt at names (Label text s)) = refl

else_same : (b : Stmts) (ts : Tokens) → else_tokens (unplaced_stmts b) ts ≡ else_tokens b ts
unfolding unplaced_exprs
else_same NoStmts ts = refl
else_same (AndStmt NoStmts s) ts = λ i. if if_same s i then flat (mark (codes "else") ∷ ts ∷ []) else flat (mark (codes "else") ∷ braced ts ∷ [])
else_same (AndStmt (AndStmt ss r) s) ts = refl

mutual
  unfolding unplaced_exprs expr_tokens

  expr_same : (first : Bool) (level : ℕ) (e : Expr) → expr_tokens first level (unplaced_expr e) ≡ expr_tokens first level e
  expr_same first level (ExprAt at names form) = λ i. if enclosed_same first level form i then enclosed (form_same false form i) else form_same first form i

  form_same : (first : Bool) (form : ExprForm) → form_tokens first (unplaced_form form) ≡ form_tokens first form
  form_same first (Num text) = refl
  form_same first (Str text) = refl
  form_same first (Name text) = refl
  form_same first (Constant w) = refl
  form_same first (Array xs) = λ i. flat (mark (codes "[") ∷ listed (exprs_same xs i) ∷ mark (codes "]") ∷ [])
  form_same first (Object ps) = λ i. flat (mark (codes "{") ∷ listed (properties_same ps i) ∷ mark (codes "}") ∷ [])
  form_same first (Function f) = λ i. flat (fun_same f i ∷ [])
  form_same first (Dot e text) = λ i. flat (expr_same first CHAIN e i ∷ mark (codes ".") ∷ name text ∷ [])
  form_same first (Sub a b) = λ i. flat (expr_same first CHAIN a i ∷ mark (codes "[") ∷ expr_same false WHOLE b i ∷ mark (codes "]") ∷ [])
  form_same first (Call e xs) = λ i. flat (expr_same first CHAIN e i ∷ mark (codes "(") ∷ listed (exprs_same xs i) ∷ mark (codes ")") ∷ [])
  form_same first (New e xs) = λ i. flat (mark (codes "new") ∷ expr_same false PRIMARY e i ∷ mark (codes "(") ∷ listed (exprs_same xs i) ∷ mark (codes ")") ∷ [])
  form_same first (Step step.PreInc e) = λ i. flat (mark (codes "++") ∷ expr_same false UNARY e i ∷ [])
  form_same first (Step step.PreDec e) = λ i. flat (mark (codes "--") ∷ expr_same false UNARY e i ∷ [])
  form_same first (Step step.PostInc e) = λ i. flat (expr_same first CHAIN e i ∷ mark (codes "++") ∷ [])
  form_same first (Step step.PostDec e) = λ i. flat (expr_same first CHAIN e i ∷ mark (codes "--") ∷ [])
  form_same first (Unary op e) = λ i. flat (mark (unary_bytes op) ∷ expr_same false UNARY e i ∷ [])
  form_same first (Binary op a b) = λ i. flat (expr_same first (operator_level op) a i ∷ mark (binary_bytes op) ∷ expr_same false (operator_level op + 1) b i ∷ [])
  form_same first (And a b) = λ i. flat (expr_same first AND a i ∷ mark (codes "&&") ∷ expr_same false BIT_OR b i ∷ [])
  form_same first (Or a b) = λ i. flat (expr_same first OR a i ∷ mark (codes "||") ∷ expr_same false AND b i ∷ [])
  form_same first (Cond a b c) = λ i. flat (expr_same first OR a i ∷ mark (codes "?") ∷ expr_same false ASSIGNMENT b i ∷ mark (codes ":") ∷ expr_same false ASSIGNMENT c i ∷ [])
  form_same first (Assign op a b) = λ i. flat (expr_same first CHAIN a i ∷ mark (assign_bytes op) ∷ expr_same false ASSIGNMENT b i ∷ [])
  form_same first (Comma a b) = λ i. flat (expr_same first WHOLE a i ∷ mark (codes ",") ∷ expr_same false ASSIGNMENT b i ∷ [])

  exprs_same : (xs : Exprs) → exprs_tokens (unplaced_exprs xs) ≡ exprs_tokens xs
  exprs_same NoExprs = refl
  exprs_same (AndExpr xs x) = λ i. exprs_same xs i ++ expr_same false ASSIGNMENT x i ∷ []

  properties_same : (ps : Properties) → properties_tokens (unplaced_properties ps) ≡ properties_tokens ps
  properties_same NoProperties = refl
  properties_same (AndProperty ps key e) = λ i. properties_same ps i ++ flat (quoted key ∷ mark (codes ":") ∷ expr_same false ASSIGNMENT e i ∷ []) ∷ []

  decls_same : (ds : Decls) → decls_tokens (unplaced_decls ds) ≡ decls_tokens ds
  decls_same NoDecls = refl
  decls_same (AndDecl ds text at v) = λ i. decls_same ds i ++ flat (name text ∷ value_same v i ∷ []) ∷ []

  value_same : (v : OptionalExpr) → value_tokens (unplaced_optional v) ≡ value_tokens v
  value_same NoExpr = refl
  value_same (SomeExpr e) = λ i. flat (mark (codes "=") ∷ expr_same false ASSIGNMENT e i ∷ [])

  optional_same : (v : OptionalExpr) → optional_tokens (unplaced_optional v) ≡ optional_tokens v
  optional_same NoExpr = refl
  optional_same (SomeExpr e) = λ i. flat (expr_same false WHOLE e i ∷ [])

  init_same : (init : ForInit) → init_tokens (unplaced_init init) ≡ init_tokens init
  init_same (DeclsFirst ds) = λ i. flat (mark (codes "var") ∷ listed (decls_same ds i) ∷ [])
  init_same (ExprsFirst xs) = λ i. flat (listed (exprs_same xs i) ∷ [])

  stmt_same : (s : Stmt) → stmt_tokens (unplaced_stmt s) ≡ stmt_tokens s
  stmt_same (StmtAt at names form) = stmt_form_same form

  stmt_form_same : (form : StmtForm) → stmt_form_tokens (unplaced_stmt_form form) ≡ stmt_form_tokens form
  stmt_form_same (Var ds) = λ i. flat (mark (codes "var") ∷ listed (decls_same ds i) ∷ mark (codes ";") ∷ [])
  stmt_form_same (Only e) = λ i. flat (expr_same true WHOLE e i ∷ mark (codes ";") ∷ [])
  stmt_form_same (If e a b) =
      (λ i. flat (mark (codes "if") ∷ enclosed (expr_same false WHOLE e i) ∷ braced (stmts_same a i) ∷ else_tokens (unplaced_stmts b) (stmts_same b i) ∷ []))
      ∙ (λ i. flat (mark (codes "if") ∷ enclosed (expr_tokens false WHOLE e) ∷ braced (stmts_tokens a) ∷ else_same b (stmts_tokens b) i ∷ []))
  stmt_form_same (While e body) = λ i. flat (mark (codes "while") ∷ enclosed (expr_same false WHOLE e i) ∷ braced (stmts_same body i) ∷ [])
  stmt_form_same (DoWhile e body) = λ i. flat (mark (codes "do") ∷ braced (stmts_same body i) ∷ mark (codes "while") ∷ enclosed (expr_same false WHOLE e i) ∷ mark (codes ";") ∷ [])
  stmt_form_same (For init test next body) = λ i. flat (mark (codes "for") ∷ mark (codes "(") ∷ init_same init i ∷ mark (codes ";") ∷ optional_same test i ∷ mark (codes ";") ∷ listed (exprs_same next i) ∷ mark (codes ")") ∷ braced (stmts_same body i) ∷ [])
  stmt_form_same (ForIn declared text e body) = λ i. flat (mark (codes "for") ∷ mark (codes "(") ∷ var_tokens declared ∷ name text ∷ mark (codes "in") ∷ expr_same false WHOLE e i ∷ mark (codes ")") ∷ braced (stmts_same body i) ∷ [])
  stmt_form_same (Continue label) = refl
  stmt_form_same (Break label) = refl
  stmt_form_same (Return v) = λ i. flat (mark (codes "return") ∷ optional_same v i ∷ mark (codes ";") ∷ [])
  stmt_form_same (Throw e) = λ i. flat (mark (codes "throw") ∷ expr_same false WHOLE e i ∷ mark (codes ";") ∷ [])
  stmt_form_same (With e body) = λ i. flat (mark (codes "with") ∷ enclosed (expr_same false WHOLE e i) ∷ braced (stmts_same body i) ∷ [])
  stmt_form_same (Switch e cs) = λ i. flat (mark (codes "switch") ∷ enclosed (expr_same false WHOLE e i) ∷ mark (codes "{") ∷ clauses_same cs i ∷ mark (codes "}") ∷ [])
  stmt_form_same (Try body caught last) = λ i. flat (mark (codes "try") ∷ braced (stmts_same body i) ∷ catch_same caught i ∷ last_same last i ∷ [])
  stmt_form_same (Label text s) = λ i. flat (name text ∷ mark (codes ":") ∷ stmt_same s i ∷ [])

  pub stmts_same : (ss : Stmts) → stmts_tokens (unplaced_stmts ss) ≡ stmts_tokens ss
  stmts_same NoStmts = refl
  stmts_same (AndStmt ss s) = λ i. stmts_same ss i ++ stmt_same s i

  catch_same : (caught : Catch) → catch_tokens (unplaced_catch caught) ≡ catch_tokens caught
  catch_same NoCatch = refl
  catch_same (CatchAs text body) = λ i. flat (mark (codes "catch") ∷ mark (codes "(") ∷ name text ∷ mark (codes ")") ∷ braced (stmts_same body i) ∷ [])

  last_same : (last : OptionalBlock) → last_tokens (unplaced_block last) ≡ last_tokens last
  last_same NoBlock = refl
  last_same (SomeBlock body) = λ i. flat (mark (codes "finally") ∷ braced (stmts_same body i) ∷ [])

  clauses_same : (cs : Clauses) → clauses_tokens (unplaced_clauses cs) ≡ clauses_tokens cs
  clauses_same NoClauses = refl
  clauses_same (AndClause cs test body) = λ i. clauses_same cs i ++ flat (test_same test i ∷ mark (codes ":") ∷ stmts_same body i ∷ [])

  test_same : (test : OptionalExpr) → test_tokens (unplaced_optional test) ≡ test_tokens test
  test_same NoExpr = refl
  test_same (SomeExpr e) = λ i. flat (mark (codes "case") ∷ expr_same false WHOLE e i ∷ [])

  fun_same : (f : Fun) → fun_tokens (unplaced_fun f) ≡ fun_tokens f
  fun_same (FunAt at names own params body funs) = λ i. flat (mark (codes "function") ∷ label_tokens own ∷ mark (codes "(") ∷ listed (map name params) ∷ mark (codes ")") ∷ mark (codes "{") ∷ funs_same funs i ∷ stmts_same body i ∷ mark (codes "}") ∷ [])

  funs_same : (fs : Funs) → funs_tokens (unplaced_funs fs) ≡ funs_tokens fs
  funs_same NoFuns = refl
  funs_same (AndFun fs f) = λ i. funs_same fs i ++ fun_same f i

-- trees that agree apart from places have the same tokens
pub one_spelling : (p q : Stmts) → unplaced_stmts p ≡ unplaced_stmts q → stmts_tokens p ≡ stmts_tokens q
one_spelling p q same = sym (stmts_same p) ∙ ap stmts_tokens same ∙ stmts_same q

-- and one text
pub one_text : (p q : Stmts) → unplaced_stmts p ≡ unplaced_stmts q → tidy p ≡ tidy q
one_text p q same = ap (spaced false) (one_spelling p q same)
