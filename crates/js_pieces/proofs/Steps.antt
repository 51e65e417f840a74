-- A list on the stack gives way to its first and its rest.
use Rattle.std.proofs.Common.{◌≡◌, ℕ, ◌+◌, suc, ◌-◌, ◌<◌, ◌≤◌, List, [], ◌∷◌, ◌++◌, length, get_or, take, drop, refl, sym, ap, ◌∙◌, subst, arith, append_assoc, append-nil}
use Rattle.std.specs.Prelude.{Bool, true, false, if◌then◌else◌, codes, map, All, Result, Ok, Err, OnOk}
use Rattle.js_tree.specs.declared.nodes.ExprId.{ExprId}
use Rattle.js_tree.specs.declared.nodes.StmtId.{StmtId}
use Rattle.js_tree.specs.declared.nodes.FunId.{FunId}
use Rattle.js_tree.specs.declared.nodes.Decl.{Decl}
use Rattle.js_tree.specs.declared.nodes.Clause.{Clause}
use Rattle.js_tree.specs.Plain.{Expr, ExprAt, ExprForm, NoStmts}
use Rattle.js_tree.specs.Forest.{Forest, IsExpr, IsStmt, IsFun, IsOptional, AreDecls, AreClauseParts, expr_at, stmt_at, fun_at, exprs_at, stmts_at, funs_at, properties_at, decls_at, clauses_at, optional_at}
use Rattle.js_pieces.specs.declared.work.Work.{Work}
use Rattle.js_pieces.specs.Tidy.{Tokens, braced, flat, more, mark, name, quoted, is_if, is_enclosed, expr_tokens, form_tokens, exprs_tokens, properties_tokens, decls_tokens, value_tokens, stmt_tokens, stmts_tokens, fun_tokens, funs_tokens, clauses_tokens, test_tokens, else_tokens}
use Rattle.js_pieces.specs.Costs.{names_cost, expr_cost, form_cost, exprs_cost, properties_cost, decls_cost, value_cost, stmt_cost, stmts_cost, fun_cost, funs_cost, clauses_cost, test_cost}
use Rattle.js_pieces.specs.Todo.{between, Pushes}
use Rattle.js_pieces.proofs.Stacks.{pushes_none, pushes_then, pushes_less}
use Rattle.js_pieces.proofs.Lists.{between-cons, exprs_first, properties_first, decls_first, stmts_first, funs_first, clauses_first, else_many, exprs_paid, properties_paid, decls_paid, stmts_paid, funs_paid, clauses_paid}

pub no_items : {A : Type 0} (xs : List A) → length xs < 1 → xs ≡ []
no_items [] lt = refl
no_items (x ∷ xs) lt = absurd (omega arith)

take_all : {A : Type 0} (xs : List A) (n : ℕ) → n ≡ length xs → take n xs ≡ xs
take_all [] n e = rw e refl
take_all (x ∷ xs) n e = rw e (ap (λ l. x ∷ l) (take_all xs (length xs) refl))

-- as a pattern takes a list apart
pub split_first : {A : Type 0} (xs : List A) (d : A) → 1 ≤ length xs → xs ≡ get_or xs 0 d ∷ take (length xs - 1) (drop 1 xs)
split_first [] d le = absurd (omega arith)
split_first (x ∷ xs) d le = ap (λ l. x ∷ l) (sym (take_all xs (length (x ∷ xs) - 1) (omega arith)))

pub split_item : {A : Type 0} (xs : List A) (x : A) → 1 ≤ length xs → x ≡ get_or xs 0 x → xs ≡ x ∷ take (length xs - 1) (drop 1 xs)
split_item xs x le is = split_first xs x le ∙ ap (λ y. y ∷ take (length xs - 1) (drop 1 xs)) (sym is)

pub one_item : {A : Type 0} (xs : List A) (d : A) → 1 ≤ length xs → length xs < 2 → xs ≡ get_or xs 0 d ∷ []
one_item [] d le lt = absurd (omega arith)
one_item (x ∷ []) d le lt = refl
one_item (x ∷ y ∷ xs) d le lt = absurd (omega arith)

head_of : {A : Type 0} (P : A → Type 0) (x : A) (xs : List A) → All P (x ∷ xs) → P x
head_of P x xs h = h 0 x (omega arith)

tail_of : {A : Type 0} (P : A → Type 0) (x : A) (xs : List A) → All P (x ∷ xs) → All P xs
tail_of P x xs h = λ k d lt. h (suc k) d (omega arith)

pub on_ok : {T E : Type 0} (r : Result T E) (P Q : Type 0) → (P → Q) → OnOk r P → OnOk r Q
on_ok (Ok x) P Q k h = k h
on_ok (Err e) P Q k h = h

between-nil : (begun : Bool) → between begun [] ≡ []
between-nil true = refl
between-nil false = refl

pub nothing_listed : (f : Forest) (begun : Bool) (xs : List Tokens) (n : ℕ) (ws : List Work) → xs ≡ [] → Pushes f (between begun xs) n ws ws
nothing_listed f begun xs n ws e = rw (e, between-nil begun) (pushes_none f ws n)

flat-append : (xs : List Tokens) (m : Tokens) → flat (xs ++ m ∷ []) ≡ flat xs ++ m
flat-append [] m = append-nil m
flat-append (x ∷ xs) m = ap (λ l. x ++ l) (flat-append xs m) ∙ sym (append_assoc x (flat xs) m)

-- the pieces of the first, and the rest
listed_first : {T E : Type 0} (r : Result T E) (f : Forest) (begun : Bool) (pieces xs : List Tokens) (n m : ℕ) (old mid new : List Work) → 2 + n ≤ m → Pushes f (flat (pieces ++ more xs ∷ [])) n old mid → OnOk r (Pushes f (if begun then codes "," ∷ [] else []) 2 mid new) → OnOk r (Pushes f (between begun (flat pieces ∷ xs)) m old new)
listed_first r f begun pieces xs n m old mid new le h g =
    let k : Pushes f (flat pieces ++ more xs) n old mid = subst (λ ts. Pushes f ts n old mid) (flat-append pieces (more xs)) h in
    on_ok r _ _ (λ p. pushes_less f _ (2 + n) m old new le (subst (λ ts. Pushes f ts (2 + n) old new) (sym (between-cons begun (flat pieces) xs)) (pushes_then f (if begun then codes "," ∷ [] else []) (flat pieces ++ more xs) 2 n old mid new k p))) g

module _ {T E : Type 0} (r : Result T E) (f : Forest) (begun : Bool) (old mid new : List Work) (comma : OnOk r (Pushes f (if begun then codes "," ∷ [] else []) 2 mid new)) where
  pub exprs_step : (ids rest : List ExprId) (id : ExprId) → ids ≡ id ∷ rest → All (IsExpr f) ids → (IsExpr f id × (All (IsExpr f) rest × Unit {0}) → Pushes f (flat (expr_tokens false 2 (expr_at f id) ∷ more (exprs_tokens (exprs_at f rest)) ∷ [])) ((1 + expr_cost (expr_at f id)) + ((1 + exprs_cost (exprs_at f rest)) + 0)) old mid) → OnOk r (Pushes f (between begun (exprs_tokens (exprs_at f ids))) (exprs_cost (exprs_at f ids)) old new)
  exprs_step ids rest id e h g =
      let h' : All (IsExpr f) (id ∷ rest) = subst (All (IsExpr f)) e h in
      let t = expr_tokens false 2 (expr_at f id) in
      let k = listed_first r f begun (t ∷ []) (exprs_tokens (exprs_at f rest)) _ (exprs_cost (exprs_at f (id ∷ rest))) old mid new (omega (arith, exprs_paid f id rest)) (g (head_of (IsExpr f) id rest h', (tail_of (IsExpr f) id rest h', tt))) comma in
      rw (e, exprs_first f id rest) (subst (λ x. OnOk r (Pushes f (between begun (x ∷ exprs_tokens (exprs_at f rest))) (exprs_cost (exprs_at f (id ∷ rest))) old new)) (append-nil t) k)

  pub properties_step : (ps rest : List (List ℕ × ExprId)) (p : List ℕ × ExprId) → ps ≡ p ∷ rest → All (λ q. IsExpr f q.1) ps → (Unit {0} × (Unit {0} × (IsExpr f p.1 × (All (λ q. IsExpr f q.1) rest × Unit {0}))) → Pushes f (flat (quoted p.0 ∷ mark (codes ":") ∷ expr_tokens false 2 (expr_at f p.1) ∷ more (properties_tokens (properties_at f rest)) ∷ [])) (2 + (2 + ((1 + expr_cost (expr_at f p.1)) + ((1 + properties_cost (properties_at f rest)) + 0)))) old mid) → OnOk r (Pushes f (between begun (properties_tokens (properties_at f ps))) (properties_cost (properties_at f ps)) old new)
  properties_step ps rest p e h g =
      let P : List ℕ × ExprId → Type 0 = λ q. IsExpr f q.1 in
      let h' : All P (p ∷ rest) = subst (All P) e h in
      rw (e, properties_first f p rest) (listed_first r f begun (quoted p.0 ∷ mark (codes ":") ∷ expr_tokens false 2 (expr_at f p.1) ∷ []) (properties_tokens (properties_at f rest)) _ (properties_cost (properties_at f (p ∷ rest))) old mid new (omega (arith, properties_paid f p rest)) (g (tt, (tt, (head_of P p rest h', (tail_of P p rest h', tt))))) comma)

  pub decls_step : (ds rest : List Decl) (d : Decl) → ds ≡ d ∷ rest → AreDecls f ds → (Unit {0} × (IsOptional f d.init × (AreDecls f rest × Unit {0})) → Pushes f (flat (name d.name ∷ value_tokens (optional_at f d.init) ∷ more (decls_tokens (decls_at f rest)) ∷ [])) (2 + ((1 + value_cost (optional_at f d.init)) + ((1 + decls_cost (decls_at f rest)) + 0))) old mid) → OnOk r (Pushes f (between begun (decls_tokens (decls_at f ds))) (decls_cost (decls_at f ds)) old new)
  decls_step ds rest d e h g =
      let P : Decl → Type 0 = λ x. IsOptional f x.init in
      let h' : All P (d ∷ rest) = subst (All P) e h in
      rw (e, decls_first f d rest) (listed_first r f begun (name d.name ∷ value_tokens (optional_at f d.init) ∷ []) (decls_tokens (decls_at f rest)) _ (decls_cost (decls_at f (d ∷ rest))) old mid new (omega (arith, decls_paid f d rest)) (g (tt, (head_of P d rest h', (tail_of P d rest h', tt)))) comma)

  pub names_step : (texts rest : List (List ℕ)) (text : List ℕ) → texts ≡ text ∷ rest → (Unit {0} × (Unit {0} × Unit {0}) → Pushes f (flat (name text ∷ more (map name rest) ∷ [])) (2 + ((1 + names_cost rest) + 0)) old mid) → OnOk r (Pushes f (between begun (map name texts)) (names_cost texts) old new)
  names_step texts rest text e g = rw e (listed_first r f begun (name text ∷ []) (map name rest) _ (5 + names_cost rest) old mid new (omega arith) (g (tt, (tt, tt))) comma)

module _ {T E : Type 0} (r : Result T E) (f : Forest) (old new : List Work) where
  -- the same tokens at a higher cost
  pub weaker : (ts : Tokens) (n m : ℕ) → n ≤ m → OnOk r (Pushes f ts n old new) → OnOk r (Pushes f ts m old new)
  weaker ts n m le h = on_ok r _ _ (λ p. pushes_less f ts n m old new le p) h

  pub stmts_step : (ids rest : List StmtId) (id : StmtId) → ids ≡ id ∷ rest → All (IsStmt f) ids → (IsStmt f id × (All (IsStmt f) rest × Unit {0}) → OnOk r (Pushes f (flat (stmt_tokens (stmt_at f id) ∷ stmts_tokens (stmts_at f rest) ∷ [])) ((1 + stmt_cost (stmt_at f id)) + ((1 + stmts_cost (stmts_at f rest)) + 0)) old new)) → OnOk r (Pushes f (stmts_tokens (stmts_at f ids)) (stmts_cost (stmts_at f ids)) old new)
  stmts_step ids rest id e h g =
      let h' : All (IsStmt f) (id ∷ rest) = subst (All (IsStmt f)) e h in
      let t = stmt_tokens (stmt_at f id) in
      let k = weaker _ _ (stmts_cost (stmts_at f (id ∷ rest))) (omega (arith, stmts_paid f id rest)) (g (head_of (IsStmt f) id rest h', (tail_of (IsStmt f) id rest h', tt))) in
      rw (e, stmts_first f id rest) (subst (λ l. OnOk r (Pushes f (t ++ l) (stmts_cost (stmts_at f (id ∷ rest))) old new)) (append-nil (stmts_tokens (stmts_at f rest))) k)

  pub funs_step : (ids rest : List FunId) (id : FunId) → ids ≡ id ∷ rest → All (IsFun f) ids → (IsFun f id × (All (IsFun f) rest × Unit {0}) → OnOk r (Pushes f (flat (fun_tokens (fun_at f id) ∷ funs_tokens (funs_at f rest) ∷ [])) ((1 + fun_cost (fun_at f id)) + ((1 + funs_cost (funs_at f rest)) + 0)) old new)) → OnOk r (Pushes f (funs_tokens (funs_at f ids)) (funs_cost (funs_at f ids)) old new)
  funs_step ids rest id e h g =
      let h' : All (IsFun f) (id ∷ rest) = subst (All (IsFun f)) e h in
      let t = fun_tokens (fun_at f id) in
      let k = weaker _ _ (funs_cost (funs_at f (id ∷ rest))) (omega (arith, funs_paid f id rest)) (g (head_of (IsFun f) id rest h', (tail_of (IsFun f) id rest h', tt))) in
      rw (e, funs_first f id rest) (subst (λ l. OnOk r (Pushes f (t ++ l) (funs_cost (funs_at f (id ∷ rest))) old new)) (append-nil (funs_tokens (funs_at f rest))) k)

  pub clauses_step : (cs rest : List Clause) (c : Clause) (body : List StmtId) → cs ≡ c ∷ rest → body ≡ c.body.items → All (AreClauseParts f) cs → (IsOptional f c.test × (Unit {0} × (All (IsStmt f) body × (All (AreClauseParts f) rest × Unit {0}))) → OnOk r (Pushes f (flat (test_tokens (optional_at f c.test) ∷ mark (codes ":") ∷ stmts_tokens (stmts_at f body) ∷ clauses_tokens (clauses_at f rest) ∷ [])) ((1 + test_cost (optional_at f c.test)) + (2 + ((1 + stmts_cost (stmts_at f body)) + ((1 + clauses_cost (clauses_at f rest)) + 0)))) old new)) → OnOk r (Pushes f (clauses_tokens (clauses_at f cs)) (clauses_cost (clauses_at f cs)) old new)
  clauses_step cs rest c body e is h g =
      let h' : All (AreClauseParts f) (c ∷ rest) = subst (All (AreClauseParts f)) e h in
      let one = head_of (AreClauseParts f) c rest h' in
      let row = test_tokens (optional_at f c.test) ∷ mark (codes ":") ∷ stmts_tokens (stmts_at f body) ∷ [] in
      let same : stmts_cost (stmts_at f body) ≡ stmts_cost (stmts_at f c.body.items) = ap (λ b. stmts_cost (stmts_at f b)) is in
      let n = clauses_cost (clauses_at f (c ∷ rest)) in
      let w = weaker _ _ n (omega (arith, clauses_paid f c rest, same)) (g (one.0, (tt, (subst (All (IsStmt f)) (sym is) one.1, (tail_of (AreClauseParts f) c rest h', tt))))) in
      let k : OnOk r (Pushes f (flat row ++ clauses_tokens (clauses_at f rest)) n old new) = subst (λ ts. OnOk r (Pushes f ts n old new)) (flat-append row (clauses_tokens (clauses_at f rest))) w in
      rw (e, clauses_first f c rest) (subst (λ b. OnOk r (Pushes f (flat (test_tokens (optional_at f c.test) ∷ mark (codes ":") ∷ stmts_tokens (stmts_at f b) ∷ []) ++ clauses_tokens (clauses_at f rest)) n old new)) is k)

  -- what stands after `else`
  pub else_if : (ids : List StmtId) (id : StmtId) → ids ≡ id ∷ [] → is_if (stmt_at f id) ≡ true → All (IsStmt f) ids → (Unit {0} × (IsStmt f id × Unit {0}) → OnOk r (Pushes f (flat (mark (codes "else") ∷ stmt_tokens (stmt_at f id) ∷ [])) (2 + ((1 + stmt_cost (stmt_at f id)) + 0)) old new)) → OnOk r (Pushes f (else_tokens (stmts_at f ids) (stmts_tokens (stmts_at f ids))) (8 + stmts_cost (stmts_at f ids)) old new)
  unfolding stmts_tokens
  else_if ids id e is h g =
      let h' : All (IsStmt f) (id ∷ []) = subst (All (IsStmt f)) e h in
      rw (e, is) (weaker _ _ (8 + stmts_cost (stmts_at f (id ∷ []))) (omega (arith, stmts_paid f id [])) (g (tt, (head_of (IsStmt f) id [] h', tt))))

  pub else_one : (ids : List StmtId) (id : StmtId) (n : ℕ) → ids ≡ id ∷ [] → is_if (stmt_at f id) ≡ false → OnOk r (Pushes f (flat (mark (codes "else") ∷ braced (stmts_tokens (stmts_at f ids)) ∷ [])) n old new) → OnOk r (Pushes f (else_tokens (stmts_at f ids) (stmts_tokens (stmts_at f ids))) n old new)
  else_one ids id n e is g =
      subst (λ l. OnOk r (Pushes f (else_tokens (stmts_at f l) (stmts_tokens (stmts_at f ids))) n old new)) (sym e) (rw is g)

  pub else_more : (ids : List StmtId) (n : ℕ) → 2 ≤ length ids → OnOk r (Pushes f (flat (mark (codes "else") ∷ braced (stmts_tokens (stmts_at f ids)) ∷ [])) n old new) → OnOk r (Pushes f (else_tokens (stmts_at f ids) (stmts_tokens (stmts_at f ids))) n old new)
  else_more [] n le g = absurd (omega arith)
  else_more (a ∷ []) n le g = absurd (omega arith)
  else_more (a ∷ b ∷ ids) n le g = rw (else_many f NoStmts a b ids (stmts_tokens (stmts_at f (a ∷ b ∷ ids)))) g

-- an expression, in parentheses or not
module _ {T E : Type 0} (r : Result T E) (f : Forest) (first : Bool) (level : ℕ) (e : Expr) (at : ℕ) (names : List ℕ) (form : ExprForm) (is : ExprAt at names form ≡ e) where
  pub enclosed_step : (old m1 m2 new : List Work) → is_enclosed first level form ≡ true → Pushes f (mark (codes ")")) 2 old m1 → Pushes f (form_tokens false form) (form_cost form) m1 m2 → OnOk r (Pushes f (mark (codes "(")) 2 m2 new) → OnOk r (Pushes f (expr_tokens first level e) (expr_cost e) old new)
  unfolding expr_tokens expr_cost
  enclosed_step old m1 m2 new t close inside before =
      subst (λ x. OnOk r (Pushes f (expr_tokens first level x) (expr_cost x) old new)) is
      (rw t (on_ok r _ _ (λ p. pushes_less f _ (2 + (form_cost form + 2)) (4 + form_cost form) old new (omega arith) (pushes_then f (mark (codes "(")) (form_tokens false form ++ mark (codes ")")) 2 (form_cost form + 2) old m2 new (pushes_then f (form_tokens false form) (mark (codes ")")) (form_cost form) 2 old m1 m2 close inside) p)) before))

  pub bare_step : (old new : List Work) → is_enclosed first level form ≡ false → OnOk r (Pushes f (form_tokens first form) (form_cost form) old new) → OnOk r (Pushes f (expr_tokens first level e) (expr_cost e) old new)
  unfolding expr_tokens expr_cost
  bare_step old new t inside = subst (λ x. OnOk r (Pushes f (expr_tokens first level x) (expr_cost x) old new)) is (rw t (on_ok r _ _ (λ p. pushes_less f _ (form_cost form) (4 + form_cost form) old new (omega arith) p) inside))
