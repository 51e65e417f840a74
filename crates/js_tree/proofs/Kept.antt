-- A node stands for the same tree in a newer forest.
use Rattle.std.proofs.Common.{◌≡◌, ℕ, suc, List, [], ◌∷◌, refl, ap, ◌∙◌, arith}
use Rattle.std.specs.Prelude.{Option, Some, None, All}
use Rattle.std.specs.declared.vec.Vec.{Vec}
use Rattle.std.specs.declared.alloc.Global.{Global}
use Rattle.js_tree.specs.declared.nodes.ExprId.{ExprId}
use Rattle.js_tree.specs.declared.nodes.StmtId.{StmtId}
use Rattle.js_tree.specs.declared.nodes.FunId.{FunId}
use Rattle.js_tree.specs.declared.nodes.Decl.{Decl}
use Rattle.js_tree.specs.declared.nodes.ForInit.{ForInit as InitNode}
use Rattle.js_tree.specs.declared.nodes.ForInit.TheVariants as init
use Rattle.js_tree.specs.declared.nodes.Clause.{Clause}
use Rattle.js_tree.specs.declared.nodes.Expr.{Expr as ExprNode}
use Rattle.js_tree.specs.declared.nodes.Expr.TheVariants as expr
use Rattle.js_tree.specs.declared.nodes.Stmt.{Stmt as StmtNode}
use Rattle.js_tree.specs.declared.nodes.Stmt.TheVariants as stmt
use Rattle.js_tree.specs.declared.nodes.Fun.{Fun as FunNode}
use Rattle.js_tree.specs.Plain.{Expr, ExprForm, Array, Object, Function, Dot, Sub, Call, New, Step, Unary, Binary, And, Or, Cond, Assign, Comma, Exprs, AndExpr, SomeExpr, Properties, AndProperty, Decls, AndDecl, DeclsFirst, ExprsFirst, StmtForm, Var, Only, If, While, DoWhile, For, ForIn, Return, Throw, With, Switch, Try, Label, Stmts, AndStmt, SomeBlock, CatchAs, Clauses, AndClause, FunAt, Funs, AndFun, NoExprs, NoStmts, NoFuns, NoProperties, NoDecls, NoClauses}
use Rattle.js_tree.specs.Forest.{Forest, IsExpr, IsStmt, IsFun, expr_at, stmt_at, fun_at, exprs_more, exprs_at, stmts_more, stmts_at, funs_more, funs_at, optional_at, properties_more, decls_more, init_at, clauses_more, clauses_at, catch_at, block_at, plain_form, plain_stmt_form, plain_fun, IsOptional, AreDecls, AreInit, AreClauseParts, AreCatch, AreBlock, AreExprParts, AreStmtParts, AreFunParts, Keeps}

-- the first, and the rest
pub first_of_all : {A : Type 0} (P : A → Type 0) (x : A) (xs : List A) → All P (x ∷ xs) → P x
first_of_all P x xs h = h 0 x (omega arith)

pub rest_of_all : {A : Type 0} (P : A → Type 0) (x : A) (xs : List A) → All P (x ∷ xs) → All P xs
rest_of_all P x xs h = λ k d lt. h (suc k) d (omega arith)

module _ (f g : Forest) (k : Keeps f g) where
  e_same : (id : ExprId) → IsExpr f id → expr_at g id ≡ expr_at f id
  e_same id h = (k.exprs id h).1

  s_same : (id : StmtId) → IsStmt f id → stmt_at g id ≡ stmt_at f id
  s_same id h = (k.stmts id h).1

  f_same : (id : FunId) → IsFun f id → fun_at g id ≡ fun_at f id
  f_same id h = (k.funs id h).1

  exprs_kept : (before : Exprs) (ids : List ExprId) → All (IsExpr f) ids → exprs_more g before ids ≡ exprs_more f before ids
  exprs_kept before [] h = refl
  exprs_kept before (id ∷ ids) h = ap (λ e. exprs_more g (AndExpr before e) ids) (e_same id (first_of_all (IsExpr f) id ids h)) ∙ exprs_kept (AndExpr before (expr_at f id)) ids (rest_of_all (IsExpr f) id ids h)

  pub stmts_kept : (before : Stmts) (ids : List StmtId) → All (IsStmt f) ids → stmts_more g before ids ≡ stmts_more f before ids
  stmts_kept before [] h = refl
  stmts_kept before (id ∷ ids) h = ap (λ e. stmts_more g (AndStmt before e) ids) (s_same id (first_of_all (IsStmt f) id ids h)) ∙ stmts_kept (AndStmt before (stmt_at f id)) ids (rest_of_all (IsStmt f) id ids h)

  funs_kept : (before : Funs) (ids : List FunId) → All (IsFun f) ids → funs_more g before ids ≡ funs_more f before ids
  funs_kept before [] h = refl
  funs_kept before (id ∷ ids) h = ap (λ e. funs_more g (AndFun before e) ids) (f_same id (first_of_all (IsFun f) id ids h)) ∙ funs_kept (AndFun before (fun_at f id)) ids (rest_of_all (IsFun f) id ids h)

  optional_kept : (e : Option ExprId) → IsOptional f e → optional_at g e ≡ optional_at f e
  optional_kept None h = refl
  optional_kept (Some id) h = ap SomeExpr (e_same id h)

  properties_kept : (before : Properties) (ps : List (List ℕ × ExprId)) → All (λ p. IsExpr f p.1) ps → properties_more g before ps ≡ properties_more f before ps
  properties_kept before [] h = refl
  properties_kept before (p ∷ ps) h = ap (λ e. properties_more g (AndProperty before p.0 e) ps) (e_same p.1 (first_of_all (λ q. IsExpr f q.1) p ps h)) ∙ properties_kept (AndProperty before p.0 (expr_at f p.1)) ps (rest_of_all (λ q. IsExpr f q.1) p ps h)

  decls_kept : (before : Decls) (ds : List Decl) → AreDecls f ds → decls_more g before ds ≡ decls_more f before ds
  decls_kept before [] h = refl
  decls_kept before (d ∷ ds) h = ap (λ e. decls_more g (AndDecl before d.name d.at e) ds) (optional_kept d.init (first_of_all (λ x. IsOptional f x.init) d ds h)) ∙ decls_kept (AndDecl before d.name d.at (optional_at f d.init)) ds (rest_of_all (λ x. IsOptional f x.init) d ds h)

  init_kept : (i : InitNode) → AreInit f i → init_at g i ≡ init_at f i
  init_kept (init.Var decls) h = ap DeclsFirst (decls_kept NoDecls decls.items h)
  init_kept (init.List ids) h = ap ExprsFirst (exprs_kept NoExprs ids.items h)

  clauses_kept : (before : Clauses) (cs : List Clause) → All (AreClauseParts f) cs → clauses_more g before cs ≡ clauses_more f before cs
  clauses_kept before [] h = refl
  clauses_kept before (c ∷ cs) h =
      let p = first_of_all (AreClauseParts f) c cs h in
      ap (λ e. clauses_more g (AndClause before e (stmts_at g c.body.items)) cs) (optional_kept c.test p.0)
      ∙ ap (λ b. clauses_more g (AndClause before (optional_at f c.test) b) cs) (stmts_kept NoStmts c.body.items p.1)
      ∙ clauses_kept (AndClause before (optional_at f c.test) (stmts_at f c.body.items)) cs (rest_of_all (AreClauseParts f) c cs h)

  catch_kept : (c : Option (List ℕ × Vec StmtId Global)) → AreCatch f c → catch_at g c ≡ catch_at f c
  catch_kept None h = refl
  catch_kept (Some c) h = ap (CatchAs c.0) (stmts_kept NoStmts c.1.items h)

  block_kept : (b : Option (Vec StmtId Global)) → AreBlock f b → block_at g b ≡ block_at f b
  block_kept None h = refl
  block_kept (Some ids) h = ap SomeBlock (stmts_kept NoStmts ids.items h)

  two : (c : Expr → Expr → ExprForm) (a b : ExprId) → IsExpr f a × IsExpr f b → c (expr_at g a) (expr_at g b) ≡ c (expr_at f a) (expr_at f b)
  two c a b h = ap (λ x. c x (expr_at g b)) (e_same a h.0) ∙ ap (c (expr_at f a)) (e_same b h.1)

  called : (c : Expr → Exprs → ExprForm) (e : ExprId) (ids : List ExprId) → IsExpr f e × All (IsExpr f) ids → c (expr_at g e) (exprs_at g ids) ≡ c (expr_at f e) (exprs_at f ids)
  called c e ids h = ap (λ x. c x (exprs_at g ids)) (e_same e h.0) ∙ ap (c (expr_at f e)) (exprs_kept NoExprs ids h.1)

  headed : (c : Expr → Stmts → StmtForm) (e : ExprId) (ids : List StmtId) → IsExpr f e × All (IsStmt f) ids → c (expr_at g e) (stmts_at g ids) ≡ c (expr_at f e) (stmts_at f ids)
  headed c e ids h = ap (λ x. c x (stmts_at g ids)) (e_same e h.0) ∙ ap (c (expr_at f e)) (stmts_kept NoStmts ids h.1)

  pub form_kept : (n : ExprNode) → AreExprParts f n → plain_form g n ≡ plain_form f n
  form_kept (expr.Num text) h = refl
  form_kept (expr.Str text) h = refl
  form_kept (expr.Name text) h = refl
  form_kept (expr.Word w) h = refl
  form_kept (expr.Array ids) h = ap Array (exprs_kept NoExprs ids.items h)
  form_kept (expr.Object ps) h = ap Object (properties_kept NoProperties ps.items h)
  form_kept (expr.Function id) h = ap Function (f_same id h)
  form_kept (expr.Dot e text) h = ap (λ x. Dot x text) (e_same e h)
  form_kept (expr.Sub a b) h = two Sub a b h
  form_kept (expr.Call e ids) h = called Call e ids.items h
  form_kept (expr.New e ids) h = called New e ids.items h
  form_kept (expr.Step op e) h = ap (Step op) (e_same e h)
  form_kept (expr.Unary op e) h = ap (Unary op) (e_same e h)
  form_kept (expr.Binary op a b) h = two (Binary op) a b h
  form_kept (expr.And a b) h = two And a b h
  form_kept (expr.Or a b) h = two Or a b h
  form_kept (expr.Cond a b c) h = ap (λ x. Cond x (expr_at g b) (expr_at g c)) (e_same a h.0) ∙ ap (λ x. Cond (expr_at f a) x (expr_at g c)) (e_same b h.1) ∙ ap (Cond (expr_at f a) (expr_at f b)) (e_same c h.2)
  form_kept (expr.Assign op a b) h = two (Assign op) a b h
  form_kept (expr.Comma a b) h = two Comma a b h

  pub stmt_form_kept : (n : StmtNode) → AreStmtParts f n → plain_stmt_form g n ≡ plain_stmt_form f n
  stmt_form_kept (stmt.Var decls) h = ap Var (decls_kept NoDecls decls.items h)
  stmt_form_kept (stmt.Expr e) h = ap Only (e_same e h)
  stmt_form_kept (stmt.If e a b) h = ap (λ x. If x (stmts_at g a.items) (stmts_at g b.items)) (e_same e h.0) ∙ ap (λ x. If (expr_at f e) x (stmts_at g b.items)) (stmts_kept NoStmts a.items h.1) ∙ ap (If (expr_at f e) (stmts_at f a.items)) (stmts_kept NoStmts b.items h.2)
  stmt_form_kept (stmt.While e body) h = headed While e body.items h
  stmt_form_kept (stmt.DoWhile e body) h = headed DoWhile e body.items h
  stmt_form_kept (stmt.For first test next body) h =
      ap (λ x. For x (optional_at g test) (exprs_at g next.items) (stmts_at g body.items)) (init_kept first h.0)
      ∙ ap (λ x. For (init_at f first) x (exprs_at g next.items) (stmts_at g body.items)) (optional_kept test h.1)
      ∙ ap (λ x. For (init_at f first) (optional_at f test) x (stmts_at g body.items)) (exprs_kept NoExprs next.items h.2)
      ∙ ap (For (init_at f first) (optional_at f test) (exprs_at f next.items)) (stmts_kept NoStmts body.items h.3)
  stmt_form_kept (stmt.ForIn declared name e body) h = headed (ForIn declared name) e body.items h
  stmt_form_kept (stmt.Continue label) h = refl
  stmt_form_kept (stmt.Break label) h = refl
  stmt_form_kept (stmt.Return e) h = ap Return (optional_kept e h)
  stmt_form_kept (stmt.Throw e) h = ap Throw (e_same e h)
  stmt_form_kept (stmt.With e body) h = headed With e body.items h
  stmt_form_kept (stmt.Switch e clauses) h = ap (λ x. Switch x (clauses_at g clauses.items)) (e_same e h.0) ∙ ap (Switch (expr_at f e)) (clauses_kept NoClauses clauses.items h.1)
  stmt_form_kept (stmt.Try body caught last) h = ap (λ x. Try x (catch_at g caught) (block_at g last)) (stmts_kept NoStmts body.items h.0) ∙ ap (λ x. Try (stmts_at f body.items) x (block_at g last)) (catch_kept caught h.1) ∙ ap (Try (stmts_at f body.items) (catch_at f caught)) (block_kept last h.2)
  stmt_form_kept (stmt.Label name s) h = ap (Label name) (s_same s h)

  pub fun_kept : (n : FunNode) (names : List ℕ) → AreFunParts f n → plain_fun g n names ≡ plain_fun f n names
  fun_kept n names h = ap (λ x. FunAt n.at names n.name n.params.items x (funs_at g n.funs.items)) (stmts_kept NoStmts n.body.items h.0) ∙ ap (FunAt n.at names n.name n.params.items (stmts_at f n.body.items)) (funs_kept NoFuns n.funs.items h.1)
