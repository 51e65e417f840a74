-- The parts of a node in the tree are those of its plain tree.
use Rattle.std.proofs.Common.{◌≡◌, ℕ, suc, List, [], ◌∷◌, ◌++◌, refl, sym, ap, ◌∙◌, Bool, true, false, arith, append_assoc}
use Rattle.std.specs.Prelude.{map, All, Option, Some, None, if◌then◌else◌}
use Rattle.std.specs.declared.vec.Vec.{Vec}
use Rattle.std.specs.declared.alloc.Global.{Global}
use Rattle.js_tree.specs.declared.nodes.ExprId.{ExprId}
use Rattle.js_tree.specs.declared.nodes.StmtId.{StmtId}
use Rattle.js_tree.specs.declared.nodes.FunId.{FunId}
use Rattle.js_tree.specs.declared.nodes.Decl.{Decl}
use Rattle.js_tree.specs.declared.nodes.ForInit.{ForInit as InitNode}
use Rattle.js_tree.specs.declared.nodes.ForInit.TheVariants as init
use Rattle.js_tree.specs.declared.nodes.Clause.{Clause}
use Rattle.js_tree.specs.declared.nodes.Expr.{Expr as ExprNode}
use Rattle.js_tree.specs.declared.nodes.Expr.TheVariants as expr
use Rattle.js_tree.specs.declared.nodes.Stmt.{Stmt as StmtNode}
use Rattle.js_tree.specs.declared.nodes.Stmt.TheVariants as stmt
use Rattle.js_tree.specs.declared.nodes.Fun.{Fun as FunNode}
use Rattle.js_tree.specs.declared.nodes.Part.{Part}
use Rattle.js_tree.specs.declared.nodes.Part.TheVariants as part
use Rattle.js_tree.specs.Plain.{Exprs, NoExprs, AndExpr, Properties, NoProperties, AndProperty, Decls, NoDecls, AndDecl, Clauses, NoClauses, AndClause, Funs, NoFuns, AndFun}
use Rattle.js_tree.specs.Forest.{Forest, IsExpr, IsStmt, IsFun, IsOptional, AreDecls, AreInit, AreClauseParts, AreCatch, AreBlock, AreExprParts, AreStmtParts, AreFunParts, expr_at, stmt_at, fun_at, exprs_more, exprs_at, stmts_at, funs_more, funs_at, optional_at, properties_more, decls_more, decls_at, init_at, clauses_more, catch_at, block_at, plain_form, plain_stmt_form, plain_fun}
use Rattle.js_tree.specs.Parts.{Spot, AnExpr, AFun, spot_at, init_parts, catch_parts, block_parts, exprs_spots, stmts_spots, funs_spots, optional_spots, properties_spots, decls_spots, init_spots, catch_spots, block_spots}
use Rattle.first_breach.proofs.Members.{map_append}
use Rattle.node_rules.specs.Forms.{is_allowed_callee, is_directive}
use Rattle.node_rules.specs.Parts.{tests, bodies, after_directive, expr_parts_of, stmt_parts_outside, stmt_parts_inside, inner}
use Rattle.node_rules.specs.Hoisting.{stmt_spot}
use Rattle.node_rules.specs.Work.{expr_ids, stmt_ids, fun_ids, value_ids, option_ids, decl_ids, test_ids, body_ids, expr_work, outer_work, inner_work, body_work, fun_work}
use Rattle.adsafe_rules.specs.Walk.{AreIn}
use Rattle.node_rules.proofs.Lists.{append_nothing}
use Rattle.node_rules.proofs.Hoisting.{stmts_spots_at}

-- lists of parts as lists of plain trees
module _ (f : Forest) where
  abbrev spots : List Part → List Spot
  spots ps = map (spot_at f) ps

  both : (x y : List Spot) (a b : List Part) → x ≡ spots a → y ≡ spots b → x ++ y ≡ spots (a ++ b)
  both x y a b e d = ap (λ l. l ++ y) e ∙ ap (λ l. spots a ++ l) d ∙ sym (map_append (spot_at f) a b)

  expr_list : (before : Exprs) (ids : List ExprId) → exprs_spots (exprs_more f before ids) ≡ exprs_spots before ++ spots (expr_ids ids)
  expr_list before [] = sym (append_nothing (exprs_spots before))
  expr_list before (id ∷ ids) = expr_list (AndExpr before (expr_at f id)) ids ∙ append_assoc (exprs_spots before) (AnExpr (expr_at f id) ∷ []) (spots (expr_ids ids))

  pub exprs_are : (ids : List ExprId) → exprs_spots (exprs_at f ids) ≡ spots (expr_ids ids)
  exprs_are ids = expr_list NoExprs ids

  stmt_list : (ids : List StmtId) → map (stmt_spot f) ids ≡ spots (stmt_ids ids)
  stmt_list [] = refl
  stmt_list (id ∷ ids) = ap (λ l. stmt_spot f id ∷ l) (stmt_list ids)

  pub stmts_are : (ids : List StmtId) → stmts_spots (stmts_at f ids) ≡ spots (stmt_ids ids)
  stmts_are ids = stmts_spots_at f ids ∙ stmt_list ids

  fun_list : (before : Funs) (ids : List FunId) → funs_spots (funs_more f before ids) ≡ funs_spots before ++ spots (fun_ids ids)
  fun_list before [] = sym (append_nothing (funs_spots before))
  fun_list before (id ∷ ids) = fun_list (AndFun before (fun_at f id)) ids ∙ append_assoc (funs_spots before) (AFun (fun_at f id) ∷ []) (spots (fun_ids ids))

  funs_are : (ids : List FunId) → funs_spots (funs_at f ids) ≡ spots (fun_ids ids)
  funs_are ids = fun_list NoFuns ids

  option_is : (e : Option ExprId) → optional_spots (optional_at f e) ≡ spots (option_ids e)
  option_is None = refl
  option_is (Some id) = refl

  value_list : (before : Properties) (ps : List (List ℕ × ExprId)) → properties_spots (properties_more f before ps) ≡ properties_spots before ++ spots (value_ids ps)
  value_list before [] = sym (append_nothing (properties_spots before))
  value_list before (p ∷ ps) = value_list (AndProperty before p.0 (expr_at f p.1)) ps ∙ append_assoc (properties_spots before) (AnExpr (expr_at f p.1) ∷ []) (spots (value_ids ps))

  decl_list : (before : Decls) (ds : List Decl) → decls_spots (decls_more f before ds) ≡ decls_spots before ++ spots (decl_ids ds)
  decl_list before [] = sym (append_nothing (decls_spots before))
  decl_list before (d ∷ ds) =
      decl_list (AndDecl before d.name d.at (optional_at f d.init)) ds
      ∙ append_assoc (decls_spots before) (optional_spots (optional_at f d.init)) (spots (decl_ids ds))
      ∙ ap (λ l. decls_spots before ++ l) (both _ _ (option_ids d.init) (decl_ids ds) (option_is d.init) refl)

  decls_are : (ds : List Decl) → decls_spots (decls_at f ds) ≡ spots (decl_ids ds)
  decls_are ds = decl_list NoDecls ds

  init_is : (first : InitNode) → init_spots (init_at f first) ≡ spots (init_parts first)
  init_is (init.Var decls) = decls_are decls.items
  init_is (init.List ids) = exprs_are ids.items

  test_list : (before : Clauses) (cs : List Clause) → tests (clauses_more f before cs) ≡ tests before ++ spots (test_ids cs)
  test_list before [] = sym (append_nothing (tests before))
  test_list before (c ∷ cs) =
      test_list (AndClause before (optional_at f c.test) (stmts_at f c.body.items)) cs
      ∙ append_assoc (tests before) (optional_spots (optional_at f c.test)) (spots (test_ids cs))
      ∙ ap (λ l. tests before ++ l) (both _ _ (option_ids c.test) (test_ids cs) (option_is c.test) refl)

  body_list : (before : Clauses) (cs : List Clause) → bodies (clauses_more f before cs) ≡ bodies before ++ spots (body_ids cs)
  body_list before [] = sym (append_nothing (bodies before))
  body_list before (c ∷ cs) =
      body_list (AndClause before (optional_at f c.test) (stmts_at f c.body.items)) cs
      ∙ append_assoc (bodies before) (stmts_spots (stmts_at f c.body.items)) (spots (body_ids cs))
      ∙ ap (λ l. bodies before ++ l) (both _ _ (stmt_ids c.body.items) (body_ids cs) (stmts_are c.body.items) refl)

  catch_is : (c : Option (List ℕ × Vec StmtId Global)) → catch_spots (catch_at f c) ≡ spots (catch_parts c)
  catch_is None = refl
  catch_is (Some c) = stmts_are c.1.items

  block_is : (b : Option (Vec StmtId Global)) → block_spots (block_at f b) ≡ spots (block_parts b)
  block_is None = refl
  block_is (Some ids) = stmts_are ids.items

  callee_is : (b : Bool) (e : ExprId) → (if b then [] else AnExpr (expr_at f e) ∷ []) ≡ spots (if b then [] else part.Expr e ∷ [])
  callee_is true e = refl
  callee_is false e = refl

  pub expr_plain : (n : ExprNode) → expr_parts_of (plain_form f n) ≡ spots (expr_work f n)
  expr_plain (expr.Array ids) = exprs_are ids.items
  expr_plain (expr.Object ps) = value_list NoProperties ps.items
  expr_plain (expr.Call e ids) = both _ _ (if is_allowed_callee (expr_at f e) then [] else part.Expr e ∷ []) (expr_ids ids.items) (callee_is (is_allowed_callee (expr_at f e)) e) (exprs_are ids.items)
  expr_plain (expr.New e ids) = ap (λ l. AnExpr (expr_at f e) ∷ l) (exprs_are ids.items)
  expr_plain n = refl

  pub outer_plain : (n : StmtNode) → stmt_parts_outside (plain_stmt_form f n) ≡ spots (outer_work n)
  outer_plain (stmt.Var decls) = decls_are decls.items
  outer_plain (stmt.If e a b) = ap (λ l. AnExpr (expr_at f e) ∷ l) (both _ _ (stmt_ids a.items) (stmt_ids b.items) (stmts_are a.items) (stmts_are b.items))
  outer_plain (stmt.For first test next body) = both _ _ (init_parts first) (option_ids test ++ expr_ids next.items) (init_is first) (both _ _ (option_ids test) (expr_ids next.items) (option_is test) (exprs_are next.items))
  outer_plain (stmt.Return e) = option_is e
  outer_plain (stmt.With e body) = ap (λ l. AnExpr (expr_at f e) ∷ l) (stmts_are body.items)
  outer_plain (stmt.Switch e clauses) = ap (λ l. AnExpr (expr_at f e) ∷ l) (test_list NoClauses clauses.items)
  outer_plain (stmt.Try body c last) = both _ _ (stmt_ids body.items) (block_parts last) (stmts_are body.items) (block_is last)
  outer_plain n = refl

  pub inner_plain : (n : StmtNode) → stmt_parts_inside (plain_stmt_form f n) ≡ spots (inner_work n)
  inner_plain (stmt.While e body) = stmts_are body.items
  inner_plain (stmt.DoWhile e body) = stmts_are body.items
  inner_plain (stmt.For first test next body) = stmts_are body.items
  inner_plain (stmt.ForIn declared x e body) = stmts_are body.items
  inner_plain (stmt.Switch e clauses) = body_list NoClauses clauses.items
  inner_plain (stmt.Try body c last) = catch_is c
  inner_plain n = refl

  directive_is : (b : Bool) (id : StmtId) (ids : List StmtId) → (if b then spots (stmt_ids ids) else stmt_spot f id ∷ spots (stmt_ids ids)) ≡ spots (stmt_ids (if b then ids else id ∷ ids))
  directive_is true id ids = refl
  directive_is false id ids = refl

  after_is : (ids : List StmtId) → after_directive (spots (stmt_ids ids)) ≡ spots (stmt_ids (body_work f ids))
  after_is [] = refl
  after_is (id ∷ ids) = directive_is (is_directive (stmt_at f id)) id ids

  pub fun_plain : (n : FunNode) (names : List ℕ) → inner (AFun (plain_fun f n names)) ≡ spots (fun_work f n)
  fun_plain n names = both _ _ (fun_ids n.funs.items) (stmt_ids (body_work f n.body.items)) (funs_are n.funs.items) (ap after_directive (stmts_are n.body.items) ∙ after_is n.body.items)

-- they are in the tree
module _ (f : Forest) where
  pub in_both : (a b : List Part) → AreIn f a → AreIn f b → AreIn f (a ++ b)
  in_both [] b h k = k
  in_both (x ∷ a) b h k = (h.0, in_both a b h.1 k)

  pub in_exprs : (ids : List ExprId) → All (IsExpr f) ids → AreIn f (expr_ids ids)
  in_exprs [] h = tt
  in_exprs (id ∷ ids) h = (h 0 id (omega arith), in_exprs ids (λ k d lt. h (suc k) d (omega arith)))

  pub in_stmts : (ids : List StmtId) → All (IsStmt f) ids → AreIn f (stmt_ids ids)
  in_stmts [] h = tt
  in_stmts (id ∷ ids) h = (h 0 id (omega arith), in_stmts ids (λ k d lt. h (suc k) d (omega arith)))

  in_funs : (ids : List FunId) → All (IsFun f) ids → AreIn f (fun_ids ids)
  in_funs [] h = tt
  in_funs (id ∷ ids) h = (h 0 id (omega arith), in_funs ids (λ k d lt. h (suc k) d (omega arith)))

  in_values : (ps : List (List ℕ × ExprId)) → All (λ p. IsExpr f p.1) ps → AreIn f (value_ids ps)
  in_values [] h = tt
  in_values (p ∷ ps) h = (h 0 p (omega arith), in_values ps (λ k d lt. h (suc k) d (omega arith)))

  in_option : (e : Option ExprId) → IsOptional f e → AreIn f (option_ids e)
  in_option None h = tt
  in_option (Some id) h = (h, tt)

  in_decls : (ds : List Decl) → AreDecls f ds → AreIn f (decl_ids ds)
  in_decls [] h = tt
  in_decls (d ∷ ds) h = in_both (option_ids d.init) (decl_ids ds) (in_option d.init (h 0 d (omega arith))) (in_decls ds (λ k x lt. h (suc k) x (omega arith)))

  in_init : (first : InitNode) → AreInit f first → AreIn f (init_parts first)
  in_init (init.Var decls) h = in_decls decls.items h
  in_init (init.List ids) h = in_exprs ids.items h

  in_tests : (cs : List Clause) → All (AreClauseParts f) cs → AreIn f (test_ids cs)
  in_tests [] h = tt
  in_tests (c ∷ cs) h = in_both (option_ids c.test) (test_ids cs) (in_option c.test (h 0 c (omega arith)).0) (in_tests cs (λ k x lt. h (suc k) x (omega arith)))

  in_bodies : (cs : List Clause) → All (AreClauseParts f) cs → AreIn f (body_ids cs)
  in_bodies [] h = tt
  in_bodies (c ∷ cs) h = in_both (stmt_ids c.body.items) (body_ids cs) (in_stmts c.body.items (h 0 c (omega arith)).1) (in_bodies cs (λ k x lt. h (suc k) x (omega arith)))

  in_catch : (c : Option (List ℕ × Vec StmtId Global)) → AreCatch f c → AreIn f (catch_parts c)
  in_catch None h = tt
  in_catch (Some c) h = in_stmts c.1.items h

  in_block : (b : Option (Vec StmtId Global)) → AreBlock f b → AreIn f (block_parts b)
  in_block None h = tt
  in_block (Some ids) h = in_stmts ids.items h

  in_callee : (b : Bool) (e : ExprId) → IsExpr f e → AreIn f (if b then [] else part.Expr e ∷ [])
  in_callee true e h = tt
  in_callee false e h = (h, tt)

  pub expr_in : (n : ExprNode) → AreExprParts f n → AreIn f (expr_work f n)
  expr_in (expr.Num x) h = tt
  expr_in (expr.Str x) h = tt
  expr_in (expr.Name x) h = tt
  expr_in (expr.Word w) h = tt
  expr_in (expr.Array ids) h = in_exprs ids.items h
  expr_in (expr.Object ps) h = in_values ps.items h
  expr_in (expr.Function id) h = (h, tt)
  expr_in (expr.Dot e x) h = (h, tt)
  expr_in (expr.Sub a b) h = (h.0, (h.1, tt))
  expr_in (expr.Call e ids) h = in_both (if is_allowed_callee (expr_at f e) then [] else part.Expr e ∷ []) (expr_ids ids.items) (in_callee (is_allowed_callee (expr_at f e)) e h.0) (in_exprs ids.items h.1)
  expr_in (expr.New e ids) h = (h.0, in_exprs ids.items h.1)
  expr_in (expr.Step op e) h = (h, tt)
  expr_in (expr.Unary op e) h = (h, tt)
  expr_in (expr.Binary op a b) h = (h.0, (h.1, tt))
  expr_in (expr.And a b) h = (h.0, (h.1, tt))
  expr_in (expr.Or a b) h = (h.0, (h.1, tt))
  expr_in (expr.Cond a b c) h = (h.0, (h.1, (h.2, tt)))
  expr_in (expr.Assign op a b) h = (h.0, (h.1, tt))
  expr_in (expr.Comma a b) h = (h.0, (h.1, tt))

  pub outer_in : (n : StmtNode) → AreStmtParts f n → AreIn f (outer_work n)
  outer_in (stmt.Var decls) h = in_decls decls.items h
  outer_in (stmt.Expr e) h = (h, tt)
  outer_in (stmt.If e a b) h = (h.0, in_both (stmt_ids a.items) (stmt_ids b.items) (in_stmts a.items h.1) (in_stmts b.items h.2))
  outer_in (stmt.While e body) h = (h.0, tt)
  outer_in (stmt.DoWhile e body) h = (h.0, tt)
  outer_in (stmt.For first test next body) h = in_both (init_parts first) (option_ids test ++ expr_ids next.items) (in_init first h.0) (in_both (option_ids test) (expr_ids next.items) (in_option test h.1) (in_exprs next.items h.2))
  outer_in (stmt.ForIn declared x e body) h = (h.0, tt)
  outer_in (stmt.Continue x) h = tt
  outer_in (stmt.Break x) h = tt
  outer_in (stmt.Return e) h = in_option e h
  outer_in (stmt.Throw e) h = (h, tt)
  outer_in (stmt.With e body) h = (h.0, in_stmts body.items h.1)
  outer_in (stmt.Switch e clauses) h = (h.0, in_tests clauses.items h.1)
  outer_in (stmt.Try body c last) h = in_both (stmt_ids body.items) (block_parts last) (in_stmts body.items h.0) (in_block last h.2)
  outer_in (stmt.Label x s) h = (h, tt)

  pub inner_in : (n : StmtNode) → AreStmtParts f n → AreIn f (inner_work n)
  inner_in (stmt.While e body) h = in_stmts body.items h.1
  inner_in (stmt.DoWhile e body) h = in_stmts body.items h.1
  inner_in (stmt.For first test next body) h = in_stmts body.items h.3
  inner_in (stmt.ForIn declared x e body) h = in_stmts body.items h.1
  inner_in (stmt.Switch e clauses) h = in_bodies clauses.items h.1
  inner_in (stmt.Try body c last) h = in_catch c h.1
  inner_in n h = tt

  body_in : (b : Bool) (id : StmtId) (ids : List StmtId) → AreIn f (stmt_ids (id ∷ ids)) → AreIn f (stmt_ids (if b then ids else id ∷ ids))
  body_in true id ids h = h.1
  body_in false id ids h = h

  after_in : (ids : List StmtId) → AreIn f (stmt_ids ids) → AreIn f (stmt_ids (body_work f ids))
  after_in [] h = h
  after_in (id ∷ ids) h = body_in (is_directive (stmt_at f id)) id ids h

  pub fun_in : (n : FunNode) → AreFunParts f n → AreIn f (fun_work f n)
  fun_in n h = in_both (fun_ids n.funs.items) (stmt_ids (body_work f n.body.items)) (in_funs n.funs.items h.1) (after_in n.body.items (in_stmts n.body.items h.0))
