-- The trees of a list of numbers are the list of their trees.
use Rattle.std.proofs.Common.{◌≡◌, ◌∙◌, ℕ, List, [], ◌∷◌, ◌++◌, sym, append-nil, append_assoc}
use Rattle.std.specs.Prelude.{map}
use Rattle.js_tree.specs.declared.nodes.ExprId.{ExprId}
use Rattle.js_tree.specs.declared.nodes.StmtId.{StmtId}
use Rattle.js_tree.specs.declared.nodes.FunId.{FunId}
use Rattle.js_tree.specs.declared.nodes.Decl.{Decl}
use Rattle.js_tree.specs.declared.nodes.Clause.{Clause}
use Rattle.js_tree.specs.Plain.{Exprs, AndExpr, Stmts, AndStmt, Funs, AndFun, Properties, AndProperty, Decls, AndDecl, Clauses, AndClause}
use Rattle.js_tree.specs.Forest.{Forest, expr_at, stmt_at, fun_at, exprs_more, stmts_more, funs_more, properties_more, decls_more, clauses_more, stmts_at, optional_at}
use Rattle.js_tree.specs.Lists.{expr_list, stmt_list, fun_list, property_list, decl_list, clause_list}

module _ (f : Forest) where
  pub exprs_after : (b : Exprs) (ids : List ExprId) → expr_list (exprs_more f b ids) ≡ expr_list b ++ map (expr_at f) ids
  exprs_after b [] = sym (append-nil (expr_list b))
  exprs_after b (id ∷ ids) = exprs_after (AndExpr b (expr_at f id)) ids ∙ append_assoc (expr_list b) (expr_at f id ∷ []) (map (expr_at f) ids)

  pub stmts_after : (b : Stmts) (ids : List StmtId) → stmt_list (stmts_more f b ids) ≡ stmt_list b ++ map (stmt_at f) ids
  stmts_after b [] = sym (append-nil (stmt_list b))
  stmts_after b (id ∷ ids) = stmts_after (AndStmt b (stmt_at f id)) ids ∙ append_assoc (stmt_list b) (stmt_at f id ∷ []) (map (stmt_at f) ids)

  pub funs_after : (b : Funs) (ids : List FunId) → fun_list (funs_more f b ids) ≡ fun_list b ++ map (fun_at f) ids
  funs_after b [] = sym (append-nil (fun_list b))
  funs_after b (id ∷ ids) = funs_after (AndFun b (fun_at f id)) ids ∙ append_assoc (fun_list b) (fun_at f id ∷ []) (map (fun_at f) ids)

  pub properties_after : (b : Properties) (ps : List (List ℕ × ExprId)) → property_list (properties_more f b ps) ≡ property_list b ++ map (λ p. (p.0, expr_at f p.1)) ps
  properties_after b [] = sym (append-nil (property_list b))
  properties_after b (p ∷ ps) = properties_after (AndProperty b p.0 (expr_at f p.1)) ps ∙ append_assoc (property_list b) ((p.0, expr_at f p.1) ∷ []) (map (λ p. (p.0, expr_at f p.1)) ps)

  pub decls_after : (b : Decls) (ds : List Decl) → decl_list (decls_more f b ds) ≡ decl_list b ++ map (λ d. (d.name, optional_at f d.init)) ds
  decls_after b [] = sym (append-nil (decl_list b))
  decls_after b (d ∷ ds) = decls_after (AndDecl b d.name d.at (optional_at f d.init)) ds ∙ append_assoc (decl_list b) ((d.name, optional_at f d.init) ∷ []) (map (λ d. (d.name, optional_at f d.init)) ds)

  pub clauses_after : (b : Clauses) (cs : List Clause) → clause_list (clauses_more f b cs) ≡ clause_list b ++ map (λ c. (optional_at f c.test, stmt_list (stmts_at f c.body.items))) cs
  clauses_after b [] = sym (append-nil (clause_list b))
  clauses_after b (c ∷ cs) = clauses_after (AndClause b (optional_at f c.test) (stmts_at f c.body.items)) cs ∙ append_assoc (clause_list b) ((optional_at f c.test, stmt_list (stmts_at f c.body.items)) ∷ []) (map (λ c. (optional_at f c.test, stmt_list (stmts_at f c.body.items))) cs)
