-- The parts of a node are in a forest, as a fact by its form, of the list of its parts, and as a test.
use Rattle.std.proofs.Common.{◌≡◌, ℕ, zero, suc, ◌<◌, List, [], ◌∷◌, ◌++◌, length, get_or, refl, arith, Bool, true, false, ltb, ◌&&◌}
use Rattle.std.specs.Prelude.{Option, Some, None, All, map, option_to_list}
use Rattle.std.specs.List.{flat_map}
use Rattle.std.proofs.lemmas.Bool.Decides.{nat_tests}
use Rattle.std.specs.declared.vec.Vec.{Vec}
use Rattle.std.specs.declared.alloc.Global.{Global}
use Rattle.js_tree.specs.declared.nodes.ExprId.{ExprId}
use Rattle.js_tree.specs.declared.nodes.StmtId.{StmtId}
use Rattle.js_tree.specs.declared.nodes.Decl.{Decl}
use Rattle.js_tree.specs.declared.nodes.ForInit.{ForInit as InitNode}
use Rattle.js_tree.specs.declared.nodes.ForInit.TheVariants as init
use Rattle.js_tree.specs.declared.nodes.Clause.{Clause}
use Rattle.js_tree.specs.declared.nodes.Expr.{Expr as ExprNode}
use Rattle.js_tree.specs.declared.nodes.Expr.TheVariants as expr
use Rattle.js_tree.specs.declared.nodes.Stmt.{Stmt as StmtNode}
use Rattle.js_tree.specs.declared.nodes.Stmt.TheVariants as stmt
use Rattle.js_tree.specs.declared.nodes.Fun.{Fun as FunNode}
use Rattle.js_tree.specs.declared.nodes.Part.{Part}
use Rattle.js_tree.specs.declared.nodes.Part.TheVariants as part
use Rattle.js_tree.specs.Forest.{Forest, IsExpr, IsStmt, IsOptional, AreDecls, AreInit, AreClauseParts, AreCatch, AreBlock, AreExprParts, AreStmtParts, AreFunParts, Keeps}
use Rattle.js_tree.specs.Parts.{IsIn, decl_parts, init_parts, clause_parts, catch_parts, block_parts, expr_parts, stmt_parts, fun_parts}
use Rattle.js_tree.specs.Arena.{is_in, are_in}

-- each of the list
abbrev pub EachIn : Forest → List Part → Type 0
EachIn f [] = Unit {0}
EachIn f (p ∷ ps) = IsIn f p × EachIn f ps

each_at : (f : Forest) (ps : List Part) → EachIn f ps → (k : ℕ) (d : Part) → k < length ps → IsIn f (get_or ps k d)
each_at f [] h k d lt = absurd (omega arith)
each_at f (p ∷ ps) h zero d lt = h.0
each_at f (p ∷ ps) h (suc k) d lt = each_at f ps h.1 k d (omega arith)

pub all_each : (f : Forest) (ps : List Part) → EachIn f ps → All (IsIn f) ps
all_each f ps h = λ k d lt. each_at f ps h k d lt

pub each_all : (f : Forest) (ps : List Part) → All (IsIn f) ps → EachIn f ps
each_all f [] h = tt
each_all f (p ∷ ps) h = (h 0 p (omega arith), each_all f ps (λ k d lt. h (suc k) d (omega arith)))

-- the test
pub both : (a b : Bool) → (a && b) ≡ true → (a ≡ true) × (b ≡ true)
both true b h = (refl, h)
both false b h = cc

pub and_true : (a b : Bool) → a ≡ true → b ≡ true → (a && b) ≡ true
and_true true b e h = h
and_true false b e h = cc

passed : (f : Forest) (p : Part) → is_in f p ≡ true → IsIn f p
passed f (part.Expr id) h = let t : ltb id.0 (length f.exprs) ≡ true = h in grind (arith, nat_tests)
passed f (part.Stmt id) h = let t : ltb id.0 (length f.stmts) ≡ true = h in grind (arith, nat_tests)
passed f (part.Fun id) h = let t : ltb id.0 (length f.funs) ≡ true = h in grind (arith, nat_tests)

passes : (f : Forest) (p : Part) → IsIn f p → is_in f p ≡ true
passes f (part.Expr id) h = let t : id.0 < length f.exprs = h in grind (arith, nat_tests)
passes f (part.Stmt id) h = let t : id.0 < length f.stmts = h in grind (arith, nat_tests)
passes f (part.Fun id) h = let t : id.0 < length f.funs = h in grind (arith, nat_tests)

pub each_passed : (f : Forest) (ps : List Part) → are_in f ps ≡ true → EachIn f ps
each_passed f [] h = tt
each_passed f (p ∷ ps) h = let q = both (is_in f p) (are_in f ps) h in (passed f p q.0, each_passed f ps q.1)

pub each_passes : (f : Forest) (ps : List Part) → EachIn f ps → are_in f ps ≡ true
each_passes f [] h = refl
each_passes f (p ∷ ps) h = and_true (is_in f p) (are_in f ps) (passes f p h.0) (each_passes f ps h.1)

-- in a newer forest
pub part_kept : (f g : Forest) → Keeps f g → (p : Part) → IsIn f p → IsIn g p
part_kept f g k (part.Expr id) h = (k.exprs id h).0
part_kept f g k (part.Stmt id) h = (k.stmts id h).0
part_kept f g k (part.Fun id) h = (k.funs id h).0

pub each_kept : (f g : Forest) → Keeps f g → (ps : List Part) → EachIn f ps → EachIn g ps
each_kept f g k [] h = tt
each_kept f g k (p ∷ ps) h = (part_kept f g k p h.0, each_kept f g k ps h.1)

-- lists
each_append : (f : Forest) (a b : List Part) → EachIn f a → EachIn f b → EachIn f (a ++ b)
each_append f [] b h g = g
each_append f (p ∷ a) b h g = (h.0, each_append f a b h.1 g)

each_front : (f : Forest) (a b : List Part) → EachIn f (a ++ b) → EachIn f a
each_front f [] b h = tt
each_front f (p ∷ a) b h = (h.0, each_front f a b h.1)

each_back : (f : Forest) (a b : List Part) → EachIn f (a ++ b) → EachIn f b
each_back f [] b h = h
each_back f (p ∷ a) b h = each_back f a b h.1

module _ {A : Type 0} (f : Forest) (P : A → Type 0) (parts : A → List Part) (forth : (x : A) → P x → EachIn f (parts x)) (back : (x : A) → EachIn f (parts x) → P x) where
  pub flat_each : (xs : List A) → All P xs → EachIn f (flat_map parts xs)
  flat_each [] h = tt
  flat_each (x ∷ xs) h = each_append f (parts x) (flat_map parts xs) (forth x (h 0 x (omega arith))) (flat_each xs (λ k d lt. h (suc k) d (omega arith)))

  flat_at : (xs : List A) → EachIn f (flat_map parts xs) → (k : ℕ) (d : A) → k < length xs → P (get_or xs k d)
  flat_at [] h k d lt = absurd (omega arith)
  flat_at (x ∷ xs) h zero d lt = back x (each_front f (parts x) (flat_map parts xs) h)
  flat_at (x ∷ xs) h (suc k) d lt = flat_at xs (each_back f (parts x) (flat_map parts xs) h) k d (omega arith)

  pub flat_all : (xs : List A) → EachIn f (flat_map parts xs) → All P xs
  flat_all xs h = λ k d lt. flat_at xs h k d lt

module _ {A : Type 0} (f : Forest) (to : A → Part) where
  pub map_each : (xs : List A) → All (λ x. IsIn f (to x)) xs → EachIn f (map to xs)
  map_each [] h = tt
  map_each (x ∷ xs) h = (h 0 x (omega arith), map_each xs (λ k d lt. h (suc k) d (omega arith)))

  map_at : (xs : List A) → EachIn f (map to xs) → (k : ℕ) (d : A) → k < length xs → IsIn f (to (get_or xs k d))
  map_at [] h k d lt = absurd (omega arith)
  map_at (x ∷ xs) h zero d lt = h.0
  map_at (x ∷ xs) h (suc k) d lt = map_at xs h.1 k d (omega arith)

  pub map_all : (xs : List A) → EachIn f (map to xs) → All (λ x. IsIn f (to x)) xs
  map_all xs h = λ k d lt. map_at xs h k d lt

module _ (f : Forest) where
  es : (ids : List ExprId) → All (IsExpr f) ids → EachIn f (map part.Expr ids)
  es ids h = map_each f part.Expr ids h

  se : (ids : List ExprId) → EachIn f (map part.Expr ids) → All (IsExpr f) ids
  se ids h = map_all f part.Expr ids h

  ss : (ids : List StmtId) → All (IsStmt f) ids → EachIn f (map part.Stmt ids)
  ss ids h = map_each f part.Stmt ids h

  ts : (ids : List StmtId) → EachIn f (map part.Stmt ids) → All (IsStmt f) ids
  ts ids h = map_all f part.Stmt ids h

  optional_each : (e : Option ExprId) → IsOptional f e → EachIn f (map part.Expr (option_to_list e))
  optional_each None h = tt
  optional_each (Some id) h = (h, tt)

  optional_is : (e : Option ExprId) → EachIn f (map part.Expr (option_to_list e)) → IsOptional f e
  optional_is None h = tt
  optional_is (Some id) h = h.0

  decls_each : (ds : List Decl) → AreDecls f ds → EachIn f (flat_map decl_parts ds)
  decls_each ds h = flat_each f (λ d. IsOptional f d.init) decl_parts (λ d. optional_each d.init) (λ d. optional_is d.init) ds h

  decls_are : (ds : List Decl) → EachIn f (flat_map decl_parts ds) → AreDecls f ds
  decls_are ds h = flat_all f (λ d. IsOptional f d.init) decl_parts (λ d. optional_each d.init) (λ d. optional_is d.init) ds h

  init_each : (i : InitNode) → AreInit f i → EachIn f (init_parts i)
  init_each (init.Var ds) h = decls_each ds.items h
  init_each (init.List ids) h = es ids.items h

  init_is : (i : InitNode) → EachIn f (init_parts i) → AreInit f i
  init_is (init.Var ds) h = decls_are ds.items h
  init_is (init.List ids) h = se ids.items h

  clause_each : (c : Clause) → AreClauseParts f c → EachIn f (clause_parts c)
  clause_each c h = each_append f _ _ (optional_each c.test h.0) (ss c.body.items h.1)

  clause_is : (c : Clause) → EachIn f (clause_parts c) → AreClauseParts f c
  clause_is c h = (optional_is c.test (each_front f _ _ h), ts c.body.items (each_back f _ _ h))

  catch_each : (c : Option (List ℕ × Vec StmtId Global)) → AreCatch f c → EachIn f (catch_parts c)
  catch_each None h = tt
  catch_each (Some c) h = ss c.1.items h

  catch_is : (c : Option (List ℕ × Vec StmtId Global)) → EachIn f (catch_parts c) → AreCatch f c
  catch_is None h = tt
  catch_is (Some c) h = ts c.1.items h

  block_each : (b : Option (Vec StmtId Global)) → AreBlock f b → EachIn f (block_parts b)
  block_each None h = tt
  block_each (Some ids) h = ss ids.items h

  block_is : (b : Option (Vec StmtId Global)) → EachIn f (block_parts b) → AreBlock f b
  block_is None h = tt
  block_is (Some ids) h = ts ids.items h

  pub expr_each : (n : ExprNode) → AreExprParts f n → EachIn f (expr_parts n)
  expr_each (expr.Num text) h = tt
  expr_each (expr.Str text) h = tt
  expr_each (expr.Name text) h = tt
  expr_each (expr.Word w) h = tt
  expr_each (expr.Array ids) h = es ids.items h
  expr_each (expr.Object ps) h = map_each f (λ p. part.Expr p.1) ps.items h
  expr_each (expr.Function id) h = (h, tt)
  expr_each (expr.Dot e text) h = (h, tt)
  expr_each (expr.Sub a b) h = (h.0, (h.1, tt))
  expr_each (expr.Call e ids) h = (h.0, es ids.items h.1)
  expr_each (expr.New e ids) h = (h.0, es ids.items h.1)
  expr_each (expr.Step op e) h = (h, tt)
  expr_each (expr.Unary op e) h = (h, tt)
  expr_each (expr.Binary op a b) h = (h.0, (h.1, tt))
  expr_each (expr.And a b) h = (h.0, (h.1, tt))
  expr_each (expr.Or a b) h = (h.0, (h.1, tt))
  expr_each (expr.Cond a b c) h = (h.0, (h.1, (h.2, tt)))
  expr_each (expr.Assign op a b) h = (h.0, (h.1, tt))
  expr_each (expr.Comma a b) h = (h.0, (h.1, tt))

  pub expr_are : (n : ExprNode) → EachIn f (expr_parts n) → AreExprParts f n
  expr_are (expr.Num text) h = tt
  expr_are (expr.Str text) h = tt
  expr_are (expr.Name text) h = tt
  expr_are (expr.Word w) h = tt
  expr_are (expr.Array ids) h = se ids.items h
  expr_are (expr.Object ps) h = map_all f (λ p. part.Expr p.1) ps.items h
  expr_are (expr.Function id) h = h.0
  expr_are (expr.Dot e text) h = h.0
  expr_are (expr.Sub a b) h = (h.0, h.1.0)
  expr_are (expr.Call e ids) h = (h.0, se ids.items h.1)
  expr_are (expr.New e ids) h = (h.0, se ids.items h.1)
  expr_are (expr.Step op e) h = h.0
  expr_are (expr.Unary op e) h = h.0
  expr_are (expr.Binary op a b) h = (h.0, h.1.0)
  expr_are (expr.And a b) h = (h.0, h.1.0)
  expr_are (expr.Or a b) h = (h.0, h.1.0)
  expr_are (expr.Cond a b c) h = (h.0, h.1.0, h.1.1.0)
  expr_are (expr.Assign op a b) h = (h.0, h.1.0)
  expr_are (expr.Comma a b) h = (h.0, h.1.0)

  pub stmt_each : (n : StmtNode) → AreStmtParts f n → EachIn f (stmt_parts n)
  stmt_each (stmt.Var ds) h = decls_each ds.items h
  stmt_each (stmt.Expr e) h = (h, tt)
  stmt_each (stmt.If e a b) h = (h.0, each_append f _ _ (ss a.items h.1) (ss b.items h.2))
  stmt_each (stmt.While e body) h = (h.0, ss body.items h.1)
  stmt_each (stmt.DoWhile e body) h = each_append f _ (part.Expr e ∷ []) (ss body.items h.1) (h.0, tt)
  stmt_each (stmt.For first test next body) h = each_append f _ _ (init_each first h.0) (each_append f _ _ (optional_each test h.1) (each_append f _ _ (es next.items h.2) (ss body.items h.3)))
  stmt_each (stmt.ForIn declared name e body) h = (h.0, ss body.items h.1)
  stmt_each (stmt.Continue label) h = tt
  stmt_each (stmt.Break label) h = tt
  stmt_each (stmt.Return e) h = optional_each e h
  stmt_each (stmt.Throw e) h = (h, tt)
  stmt_each (stmt.With e body) h = (h.0, ss body.items h.1)
  stmt_each (stmt.Switch e cs) h = (h.0, flat_each f (AreClauseParts f) clause_parts clause_each clause_is cs.items h.1)
  stmt_each (stmt.Try body caught last) h = each_append f _ _ (ss body.items h.0) (each_append f _ _ (catch_each caught h.1) (block_each last h.2))
  stmt_each (stmt.Label name s) h = (h, tt)

  pub stmt_are : (n : StmtNode) → EachIn f (stmt_parts n) → AreStmtParts f n
  stmt_are (stmt.Var ds) h = decls_are ds.items h
  stmt_are (stmt.Expr e) h = h.0
  stmt_are (stmt.If e a b) h = (h.0, ts a.items (each_front f _ _ h.1), ts b.items (each_back f _ _ h.1))
  stmt_are (stmt.While e body) h = (h.0, ts body.items h.1)
  stmt_are (stmt.DoWhile e body) h = ((each_back f (map part.Stmt body.items) (part.Expr e ∷ []) h).0, ts body.items (each_front f _ (part.Expr e ∷ []) h))
  stmt_are (stmt.For first test next body) h =
      let more = each_back f (init_parts first) (map part.Expr (option_to_list test) ++ (map part.Expr next.items ++ map part.Stmt body.items)) h in
      let last = each_back f (map part.Expr (option_to_list test)) (map part.Expr next.items ++ map part.Stmt body.items) more in
      (init_is first (each_front f _ _ h), optional_is test (each_front f _ _ more), se next.items (each_front f _ _ last), ts body.items (each_back f (map part.Expr next.items) _ last))
  stmt_are (stmt.ForIn declared name e body) h = (h.0, ts body.items h.1)
  stmt_are (stmt.Continue label) h = tt
  stmt_are (stmt.Break label) h = tt
  stmt_are (stmt.Return e) h = optional_is e h
  stmt_are (stmt.Throw e) h = h.0
  stmt_are (stmt.With e body) h = (h.0, ts body.items h.1)
  stmt_are (stmt.Switch e cs) h = (h.0, flat_all f (AreClauseParts f) clause_parts clause_each clause_is cs.items h.1)
  stmt_are (stmt.Try body caught last) h =
      let more = each_back f (map part.Stmt body.items) (catch_parts caught ++ block_parts last) h in
      (ts body.items (each_front f _ _ h), catch_is caught (each_front f _ _ more), block_is last (each_back f (catch_parts caught) _ more))
  stmt_are (stmt.Label name s) h = h.0

  pub fun_each : (n : FunNode) → AreFunParts f n → EachIn f (fun_parts n)
  fun_each n h = each_append f _ _ (map_each f part.Fun n.funs.items h.1) (ss n.body.items h.0)

  pub fun_are : (n : FunNode) → EachIn f (fun_parts n) → AreFunParts f n
  fun_are n h = (ts n.body.items (each_back f (map part.Fun n.funs.items) _ h), map_all f part.Fun n.funs.items (each_front f _ _ h))
