-- The tokens of a list are those of its first and of its rest.
use Rattle.std.proofs.Common.{◌≡◌, ℕ, ◌+◌, arith, List, [], ◌∷◌, ◌++◌, refl, sym, ap, ◌∙◌, append_assoc, append-nil}
use Rattle.std.specs.Prelude.{Bool, true, false, if◌then◌else◌, codes}
use Rattle.js_tree.specs.declared.nodes.ExprId.{ExprId}
use Rattle.js_tree.specs.declared.nodes.StmtId.{StmtId}
use Rattle.js_tree.specs.declared.nodes.FunId.{FunId}
use Rattle.js_tree.specs.declared.nodes.Decl.{Decl}
use Rattle.js_tree.specs.declared.nodes.Clause.{Clause}
use Rattle.js_tree.specs.Plain.{Exprs, AndExpr, NoExprs, Properties, AndProperty, NoProperties, Decls, AndDecl, NoDecls, Stmts, AndStmt, NoStmts, Funs, AndFun, NoFuns, Clauses, AndClause, NoClauses}
use Rattle.js_tree.specs.Forest.{Forest, expr_at, stmt_at, fun_at, exprs_more, exprs_at, stmts_more, stmts_at, funs_more, funs_at, properties_more, properties_at, decls_more, decls_at, clauses_more, clauses_at, optional_at}
use Rattle.js_pieces.specs.Tidy.{Tokens, braced, flat, more, mark, name, quoted, expr_tokens, exprs_tokens, properties_tokens, decls_tokens, value_tokens, stmt_tokens, stmts_tokens, fun_tokens, funs_tokens, clauses_tokens, test_tokens, else_tokens}
use Rattle.js_pieces.specs.Costs.{expr_cost, exprs_cost, properties_cost, decls_cost, value_cost, stmt_cost, stmts_cost, fun_cost, funs_cost, clauses_cost, test_cost}
use Rattle.js_pieces.specs.Todo.{between}

-- a comma comes first, or none
pub between-cons : (begun : Bool) (x : Tokens) (xs : List Tokens) → between begun (x ∷ xs) ≡ (if begun then codes "," ∷ [] else []) ++ (x ++ more xs)
between-cons true x xs = refl
between-cons false x xs = refl

-- a list that grows at its end, of which each adds some tokens
after : {A : Type 0} (a x b c : List A) → c ≡ (a ++ x) ++ b → c ≡ a ++ (x ++ b)
after a x b c h = h ∙ append_assoc a x b

module _ (f : Forest) where
  exprs_after : (before : Exprs) (ids : List ExprId) → exprs_tokens (exprs_more f before ids) ≡ exprs_tokens before ++ exprs_tokens (exprs_at f ids)
  unfolding exprs_tokens
  exprs_after before [] = sym (append-nil (exprs_tokens before))
  exprs_after before (id ∷ ids) =
      let t = expr_tokens false 2 (expr_at f id) ∷ [] in
      after (exprs_tokens before) t _ _ (exprs_after (AndExpr before (expr_at f id)) ids) ∙ ap (λ l. exprs_tokens before ++ l) (sym (exprs_after (AndExpr NoExprs (expr_at f id)) ids))

  pub exprs_first : (id : ExprId) (ids : List ExprId) → exprs_tokens (exprs_at f (id ∷ ids)) ≡ expr_tokens false 2 (expr_at f id) ∷ exprs_tokens (exprs_at f ids)
  unfolding exprs_tokens
  exprs_first id ids = exprs_after (AndExpr NoExprs (expr_at f id)) ids

  properties_after : (before : Properties) (ps : List (List ℕ × ExprId)) → properties_tokens (properties_more f before ps) ≡ properties_tokens before ++ properties_tokens (properties_at f ps)
  unfolding properties_tokens
  properties_after before [] = sym (append-nil (properties_tokens before))
  properties_after before (p ∷ ps) =
      let t = flat (quoted p.0 ∷ mark (codes ":") ∷ expr_tokens false 2 (expr_at f p.1) ∷ []) ∷ [] in
      after (properties_tokens before) t _ _ (properties_after (AndProperty before p.0 (expr_at f p.1)) ps) ∙ ap (λ l. properties_tokens before ++ l) (sym (properties_after (AndProperty NoProperties p.0 (expr_at f p.1)) ps))

  pub properties_first : (p : List ℕ × ExprId) (ps : List (List ℕ × ExprId)) → properties_tokens (properties_at f (p ∷ ps)) ≡ flat (quoted p.0 ∷ mark (codes ":") ∷ expr_tokens false 2 (expr_at f p.1) ∷ []) ∷ properties_tokens (properties_at f ps)
  unfolding properties_tokens
  properties_first p ps = properties_after (AndProperty NoProperties p.0 (expr_at f p.1)) ps

  decls_after : (before : Decls) (ds : List Decl) → decls_tokens (decls_more f before ds) ≡ decls_tokens before ++ decls_tokens (decls_at f ds)
  unfolding decls_tokens
  decls_after before [] = sym (append-nil (decls_tokens before))
  decls_after before (d ∷ ds) =
      let t = flat (name d.name ∷ value_tokens (optional_at f d.init) ∷ []) ∷ [] in
      after (decls_tokens before) t _ _ (decls_after (AndDecl before d.name d.at (optional_at f d.init)) ds) ∙ ap (λ l. decls_tokens before ++ l) (sym (decls_after (AndDecl NoDecls d.name d.at (optional_at f d.init)) ds))

  pub decls_first : (d : Decl) (ds : List Decl) → decls_tokens (decls_at f (d ∷ ds)) ≡ flat (name d.name ∷ value_tokens (optional_at f d.init) ∷ []) ∷ decls_tokens (decls_at f ds)
  unfolding decls_tokens
  decls_first d ds = decls_after (AndDecl NoDecls d.name d.at (optional_at f d.init)) ds

  stmts_after : (before : Stmts) (ids : List StmtId) → stmts_tokens (stmts_more f before ids) ≡ stmts_tokens before ++ stmts_tokens (stmts_at f ids)
  unfolding stmts_tokens
  stmts_after before [] = sym (append-nil (stmts_tokens before))
  stmts_after before (id ∷ ids) = after (stmts_tokens before) (stmt_tokens (stmt_at f id)) _ _ (stmts_after (AndStmt before (stmt_at f id)) ids) ∙ ap (λ l. stmts_tokens before ++ l) (sym (stmts_after (AndStmt NoStmts (stmt_at f id)) ids))

  pub stmts_first : (id : StmtId) (ids : List StmtId) → stmts_tokens (stmts_at f (id ∷ ids)) ≡ stmt_tokens (stmt_at f id) ++ stmts_tokens (stmts_at f ids)
  unfolding stmts_tokens
  stmts_first id ids = stmts_after (AndStmt NoStmts (stmt_at f id)) ids

  funs_after : (before : Funs) (ids : List FunId) → funs_tokens (funs_more f before ids) ≡ funs_tokens before ++ funs_tokens (funs_at f ids)
  unfolding funs_tokens
  funs_after before [] = sym (append-nil (funs_tokens before))
  funs_after before (id ∷ ids) = after (funs_tokens before) (fun_tokens (fun_at f id)) _ _ (funs_after (AndFun before (fun_at f id)) ids) ∙ ap (λ l. funs_tokens before ++ l) (sym (funs_after (AndFun NoFuns (fun_at f id)) ids))

  pub funs_first : (id : FunId) (ids : List FunId) → funs_tokens (funs_at f (id ∷ ids)) ≡ fun_tokens (fun_at f id) ++ funs_tokens (funs_at f ids)
  unfolding funs_tokens
  funs_first id ids = funs_after (AndFun NoFuns (fun_at f id)) ids

  clauses_after : (before : Clauses) (cs : List Clause) → clauses_tokens (clauses_more f before cs) ≡ clauses_tokens before ++ clauses_tokens (clauses_at f cs)
  unfolding clauses_tokens
  clauses_after before [] = sym (append-nil (clauses_tokens before))
  clauses_after before (c ∷ cs) =
      let t = flat (test_tokens (optional_at f c.test) ∷ mark (codes ":") ∷ stmts_tokens (stmts_at f c.body.items) ∷ []) in
      after (clauses_tokens before) t _ _ (clauses_after (AndClause before (optional_at f c.test) (stmts_at f c.body.items)) cs) ∙ ap (λ l. clauses_tokens before ++ l) (sym (clauses_after (AndClause NoClauses (optional_at f c.test) (stmts_at f c.body.items)) cs))

  pub clauses_first : (c : Clause) (cs : List Clause) → clauses_tokens (clauses_at f (c ∷ cs)) ≡ flat (test_tokens (optional_at f c.test) ∷ mark (codes ":") ∷ stmts_tokens (stmts_at f c.body.items) ∷ []) ++ clauses_tokens (clauses_at f cs)
  unfolding clauses_tokens
  clauses_first c cs = clauses_after (AndClause NoClauses (optional_at f c.test) (stmts_at f c.body.items)) cs

  -- two statements or more are no `else if`
  pub else_many : (before : Stmts) (a b : StmtId) (ids : List StmtId) (ts : Tokens) → else_tokens (stmts_more f (AndStmt (AndStmt before (stmt_at f a)) (stmt_at f b)) ids) ts ≡ flat (mark (codes "else") ∷ braced ts ∷ [])
  else_many before a b [] ts = refl
  else_many before a b (id ∷ ids) ts = else_many (AndStmt before (stmt_at f a)) b id ids ts

-- and their costs
module _ (f : Forest) where
  exprs_paid_after : (before : Exprs) (ids : List ExprId) → exprs_cost (exprs_more f before ids) ≡ exprs_cost before + exprs_cost (exprs_at f ids)
  unfolding exprs_cost
  exprs_paid_after before [] = omega arith
  exprs_paid_after before (id ∷ ids) = omega (arith, exprs_paid_after (AndExpr before (expr_at f id)) ids, exprs_paid_after (AndExpr NoExprs (expr_at f id)) ids)

  pub exprs_paid : (id : ExprId) (ids : List ExprId) → exprs_cost (exprs_at f (id ∷ ids)) ≡ (expr_cost (expr_at f id) + 4) + exprs_cost (exprs_at f ids)
  unfolding exprs_cost
  exprs_paid id ids = omega (arith, exprs_paid_after (AndExpr NoExprs (expr_at f id)) ids)

  properties_paid_after : (before : Properties) (ids : List (List ℕ × ExprId)) → properties_cost (properties_more f before ids) ≡ properties_cost before + properties_cost (properties_at f ids)
  unfolding properties_cost
  properties_paid_after before [] = omega arith
  properties_paid_after before (id ∷ ids) = omega (arith, properties_paid_after (AndProperty before id.0 (expr_at f id.1)) ids, properties_paid_after (AndProperty NoProperties id.0 (expr_at f id.1)) ids)

  pub properties_paid : (id : List ℕ × ExprId) (ids : List (List ℕ × ExprId)) → properties_cost (properties_at f (id ∷ ids)) ≡ (expr_cost (expr_at f id.1) + 8) + properties_cost (properties_at f ids)
  unfolding properties_cost
  properties_paid id ids = omega (arith, properties_paid_after (AndProperty NoProperties id.0 (expr_at f id.1)) ids)

  decls_paid_after : (before : Decls) (ids : List Decl) → decls_cost (decls_more f before ids) ≡ decls_cost before + decls_cost (decls_at f ids)
  unfolding decls_cost
  decls_paid_after before [] = omega arith
  decls_paid_after before (id ∷ ids) = omega (arith, decls_paid_after (AndDecl before id.name id.at (optional_at f id.init)) ids, decls_paid_after (AndDecl NoDecls id.name id.at (optional_at f id.init)) ids)

  pub decls_paid : (id : Decl) (ids : List Decl) → decls_cost (decls_at f (id ∷ ids)) ≡ (value_cost (optional_at f id.init) + 6) + decls_cost (decls_at f ids)
  unfolding decls_cost
  decls_paid id ids = omega (arith, decls_paid_after (AndDecl NoDecls id.name id.at (optional_at f id.init)) ids)

  stmts_paid_after : (before : Stmts) (ids : List StmtId) → stmts_cost (stmts_more f before ids) ≡ stmts_cost before + stmts_cost (stmts_at f ids)
  unfolding stmts_cost
  stmts_paid_after before [] = omega arith
  stmts_paid_after before (id ∷ ids) = omega (arith, stmts_paid_after (AndStmt before (stmt_at f id)) ids, stmts_paid_after (AndStmt NoStmts (stmt_at f id)) ids)

  pub stmts_paid : (id : StmtId) (ids : List StmtId) → stmts_cost (stmts_at f (id ∷ ids)) ≡ (stmt_cost (stmt_at f id) + 2) + stmts_cost (stmts_at f ids)
  unfolding stmts_cost
  stmts_paid id ids = omega (arith, stmts_paid_after (AndStmt NoStmts (stmt_at f id)) ids)

  funs_paid_after : (before : Funs) (ids : List FunId) → funs_cost (funs_more f before ids) ≡ funs_cost before + funs_cost (funs_at f ids)
  unfolding funs_cost
  funs_paid_after before [] = omega arith
  funs_paid_after before (id ∷ ids) = omega (arith, funs_paid_after (AndFun before (fun_at f id)) ids, funs_paid_after (AndFun NoFuns (fun_at f id)) ids)

  pub funs_paid : (id : FunId) (ids : List FunId) → funs_cost (funs_at f (id ∷ ids)) ≡ (fun_cost (fun_at f id) + 2) + funs_cost (funs_at f ids)
  unfolding funs_cost
  funs_paid id ids = omega (arith, funs_paid_after (AndFun NoFuns (fun_at f id)) ids)

  clauses_paid_after : (before : Clauses) (ids : List Clause) → clauses_cost (clauses_more f before ids) ≡ clauses_cost before + clauses_cost (clauses_at f ids)
  unfolding clauses_cost
  clauses_paid_after before [] = omega arith
  clauses_paid_after before (id ∷ ids) = omega (arith, clauses_paid_after (AndClause before (optional_at f id.test) (stmts_at f id.body.items)) ids, clauses_paid_after (AndClause NoClauses (optional_at f id.test) (stmts_at f id.body.items)) ids)

  pub clauses_paid : (id : Clause) (ids : List Clause) → clauses_cost (clauses_at f (id ∷ ids)) ≡ (test_cost (optional_at f id.test) + stmts_cost (stmts_at f id.body.items) + 5) + clauses_cost (clauses_at f ids)
  unfolding clauses_cost
  clauses_paid id ids = omega (arith, clauses_paid_after (AndClause NoClauses (optional_at f id.test) (stmts_at f id.body.items)) ids)
