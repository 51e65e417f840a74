-- Lists of parts in a newer tree, and with one part more.
use Rattle.std.proofs.Common.{◌≡◌, ℕ, suc, ◌<◌, List, [], ◌∷◌, ◌++◌, Option, Some, None, refl, ap, ◌∙◌, length, get_or, arith}
use Rattle.std.specs.Prelude.{All}
use Rattle.std.proofs.lemmas.List.Elements.{All-push}
use Rattle.js_tree.specs.declared.nodes.ExprId.{ExprId}
use Rattle.js_tree.specs.declared.nodes.StmtId.{StmtId}
use Rattle.js_tree.specs.declared.nodes.FunId.{FunId}
use Rattle.js_tree.specs.declared.nodes.Decl.{Decl}
use Rattle.js_tree.specs.declared.nodes.Clause.{Clause}
use Rattle.js_tree.specs.Plain.{Exprs, Stmts, NoStmts, Funs, Decls, Clauses, AndExpr, AndStmt, AndFun, AndDecl, AndClause, SomeExpr}
use Rattle.js_tree.specs.Forest.{Forest, Keeps, IsExpr, IsStmt, IsFun, IsOptional, AreDecls, AreClauseParts, expr_at, stmt_at, fun_at, stmts_at, exprs_more, stmts_more, funs_more, decls_more, clauses_more, optional_at}

-- lists of parts in a newer tree
pub exprs_more_kept : (a b : Forest) (before : Exprs) (ids : List ExprId) → ((i : ℕ) (d : ExprId) → i < length ids → IsExpr a (get_or ids i d)) → Keeps a b → exprs_more b before ids ≡ exprs_more a before ids
exprs_more_kept a b before [] h kept = refl
exprs_more_kept a b before (id ∷ ids) h kept = ap (λ e. exprs_more b (AndExpr before e) ids) (kept.exprs id (h 0 id (omega arith))).1 ∙ exprs_more_kept a b (AndExpr before (expr_at a id)) ids (λ i d lt. h (suc i) d (omega arith)) kept

pub stmts_more_kept : (a b : Forest) (before : Stmts) (ids : List StmtId) → ((i : ℕ) (d : StmtId) → i < length ids → IsStmt a (get_or ids i d)) → Keeps a b → stmts_more b before ids ≡ stmts_more a before ids
stmts_more_kept a b before [] h kept = refl
stmts_more_kept a b before (id ∷ ids) h kept = ap (λ e. stmts_more b (AndStmt before e) ids) (kept.stmts id (h 0 id (omega arith))).1 ∙ stmts_more_kept a b (AndStmt before (stmt_at a id)) ids (λ i d lt. h (suc i) d (omega arith)) kept

pub funs_more_kept : (a b : Forest) (before : Funs) (ids : List FunId) → ((i : ℕ) (d : FunId) → i < length ids → IsFun a (get_or ids i d)) → Keeps a b → funs_more b before ids ≡ funs_more a before ids
funs_more_kept a b before [] h kept = refl
funs_more_kept a b before (id ∷ ids) h kept = ap (λ e. funs_more b (AndFun before e) ids) (kept.funs id (h 0 id (omega arith))).1 ∙ funs_more_kept a b (AndFun before (fun_at a id)) ids (λ i d lt. h (suc i) d (omega arith)) kept

pub exprs_more_push : (f : Forest) (before : Exprs) (ids : List ExprId) (id : ExprId) → exprs_more f before (ids ++ id ∷ []) ≡ AndExpr (exprs_more f before ids) (expr_at f id)
exprs_more_push f before [] id = refl
exprs_more_push f before (x ∷ ids) id = exprs_more_push f (AndExpr before (expr_at f x)) ids id

pub stmts_more_push : (f : Forest) (before : Stmts) (ids : List StmtId) (id : StmtId) → stmts_more f before (ids ++ id ∷ []) ≡ AndStmt (stmts_more f before ids) (stmt_at f id)
stmts_more_push f before [] id = refl
stmts_more_push f before (x ∷ ids) id = stmts_more_push f (AndStmt before (stmt_at f x)) ids id

pub funs_more_push : (f : Forest) (before : Funs) (ids : List FunId) (id : FunId) → funs_more f before (ids ++ id ∷ []) ≡ AndFun (funs_more f before ids) (fun_at f id)
funs_more_push f before [] id = refl
funs_more_push f before (x ∷ ids) id = funs_more_push f (AndFun before (fun_at f x)) ids id

-- all parts are in the newer tree too, with one more
pub exprs_in : (a b : Forest) (ids : List ExprId) (id : ExprId) → All (IsExpr a) ids → Keeps a b → IsExpr b id → All (IsExpr b) (ids ++ id ∷ [])
exprs_in a b ids id h kept is = All-push (IsExpr b) ids id (λ i d lt. (kept.exprs (get_or ids i d) (h i d lt)).0) is

pub stmts_in : (a b : Forest) (ids : List StmtId) (id : StmtId) → All (IsStmt a) ids → Keeps a b → IsStmt b id → All (IsStmt b) (ids ++ id ∷ [])
stmts_in a b ids id h kept is = All-push (IsStmt b) ids id (λ i d lt. (kept.stmts (get_or ids i d) (h i d lt)).0) is

pub funs_in : (a b : Forest) (ids : List FunId) (id : FunId) → All (IsFun a) ids → Keeps a b → IsFun b id → All (IsFun b) (ids ++ id ∷ [])
funs_in a b ids id h kept is = All-push (IsFun b) ids id (λ i d lt. (kept.funs (get_or ids i d) (h i d lt)).0) is

-- optional parts
pub optional_kept : (a b : Forest) (v : Option ExprId) → IsOptional a v → Keeps a b → IsOptional b v × (optional_at b v ≡ optional_at a v)
optional_kept a b None h kept = (tt, refl)
optional_kept a b (Some id) h kept = ((kept.exprs id h).0, ap (λ e. SomeExpr e) (kept.exprs id h).1)

pub decls_more_kept : (a b : Forest) (before : Decls) (ds : List Decl) → ((i : ℕ) (d : Decl) → i < length ds → IsOptional a (get_or ds i d).init) → Keeps a b → decls_more b before ds ≡ decls_more a before ds
decls_more_kept a b before [] h kept = refl
decls_more_kept a b before (d ∷ ds) h kept = ap (λ v. decls_more b (AndDecl before d.name d.at v) ds) (optional_kept a b d.init (h 0 d (omega arith)) kept).1 ∙ decls_more_kept a b (AndDecl before d.name d.at (optional_at a d.init)) ds (λ i x lt. h (suc i) x (omega arith)) kept

pub decls_more_push : (f : Forest) (before : Decls) (ds : List Decl) (d : Decl) → decls_more f before (ds ++ d ∷ []) ≡ AndDecl (decls_more f before ds) d.name d.at (optional_at f d.init)
decls_more_push f before [] d = refl
decls_more_push f before (x ∷ ds) d = decls_more_push f (AndDecl before x.name x.at (optional_at f x.init)) ds d

pub decls_in : (a b : Forest) (ds : List Decl) (d : Decl) → AreDecls a ds → Keeps a b → IsOptional b d.init → AreDecls b (ds ++ d ∷ [])
decls_in a b ds d h kept is = All-push (λ x. IsOptional b x.init) ds d (λ i x lt. (optional_kept a b (get_or ds i x).init (h i x lt) kept).0) is

-- clauses
pub stmts_kept_all : (a b : Forest) (ids : List StmtId) → All (IsStmt a) ids → Keeps a b → All (IsStmt b) ids
stmts_kept_all a b ids h kept = λ i x lt. (kept.stmts (get_or ids i x) (h i x lt)).0

pub exprs_kept_all : (a b : Forest) (ids : List ExprId) → All (IsExpr a) ids → Keeps a b → All (IsExpr b) ids
exprs_kept_all a b ids h kept = λ i x lt. (kept.exprs (get_or ids i x) (h i x lt)).0

pub decls_kept_all : (a b : Forest) (ds : List Decl) → AreDecls a ds → Keeps a b → AreDecls b ds
decls_kept_all a b ds h kept = λ i x lt. (optional_kept a b (get_or ds i x).init (h i x lt) kept).0

pub clause_kept : (a b : Forest) (c : Clause) → AreClauseParts a c → Keeps a b → AreClauseParts b c
clause_kept a b c h kept = ((optional_kept a b c.test (h.0) kept).0, stmts_kept_all a b c.body.items (h.1) kept)

pub clauses_more_kept : (a b : Forest) (before : Clauses) (cs : List Clause) → ((i : ℕ) (c : Clause) → i < length cs → AreClauseParts a (get_or cs i c)) → Keeps a b → clauses_more b before cs ≡ clauses_more a before cs
clauses_more_kept a b before [] h kept = refl
clauses_more_kept a b before (c ∷ cs) h kept =
    let first = h 0 c (omega arith) in
    ap (λ v. clauses_more b (AndClause before v (stmts_at b c.body.items)) cs) (optional_kept a b c.test (first.0) kept).1
    ∙ ap (λ ss. clauses_more b (AndClause before (optional_at a c.test) ss) cs) (stmts_more_kept a b NoStmts c.body.items (λ i x lt. first.1 i x lt) kept)
    ∙ clauses_more_kept a b (AndClause before (optional_at a c.test) (stmts_at a c.body.items)) cs (λ i x lt. h (suc i) x (omega arith)) kept

pub clauses_more_push : (f : Forest) (before : Clauses) (cs : List Clause) (c : Clause) → clauses_more f before (cs ++ c ∷ []) ≡ AndClause (clauses_more f before cs) (optional_at f c.test) (stmts_at f c.body.items)
clauses_more_push f before [] c = refl
clauses_more_push f before (x ∷ cs) c = clauses_more_push f (AndClause before (optional_at f x.test) (stmts_at f x.body.items)) cs c

pub clauses_in : (a b : Forest) (cs : List Clause) (c : Clause) → All (AreClauseParts a) cs → Keeps a b → AreClauseParts b c → All (AreClauseParts b) (cs ++ c ∷ [])
clauses_in a b cs c h kept is = All-push (AreClauseParts b) cs c (λ i x lt. clause_kept a b (get_or cs i x) (h i x lt) kept) is
