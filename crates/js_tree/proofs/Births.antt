-- An entry is found by its number.
use Rattle.std.proofs.Common.{◌≡◌, ℕ, zero, suc, ◌+◌, ◌<◌, List, [], ◌∷◌, ◌++◌, length, get_or, refl, sym, ap, ◌∙◌, subst, arith, Bool, true, false, length-append}
use Rattle.std.specs.Prelude.{slice_range}
use Rattle.js_tree.specs.declared.nodes.Part.{Part}
use Rattle.js_tree.specs.declared.nodes.Part.TheVariants as part
use Rattle.js_tree.specs.declared.tree.ExprEntry.{ExprEntry}
use Rattle.js_tree.specs.declared.tree.StmtEntry.{StmtEntry}
use Rattle.js_tree.specs.declared.tree.FunEntry.{FunEntry}
use Rattle.js_tree.specs.declared.tree.Kind.{Kind}
use Rattle.js_tree.specs.declared.tree.Kind.TheVariants as kind
use Rattle.js_tree.specs.Plain.{ExprAt, StmtAt}
use Rattle.js_tree.specs.Forest.{Forest, plain_form, plain_stmt_form, plain_fun, Keeps}
use Rattle.js_tree.specs.Parts.{AnExpr, AStmt, AFun, IsIn, spot_at}
use Rattle.js_tree.specs.Arena.{Entry, ExprEntryAt, StmtEntryAt, FunEntryAt, expr_entry, stmt_entry, fun_entry, entries, are_counted, entry_spot, with_spot, grow, entry_parts, are_in, is_ordered, AreEntryParts, Stands}
use Rattle.js_tree.proofs.Grown.{keeps_then, keeps_with, keeps_grow, adds_expr, adds_stmt, adds_fun}
use Rattle.js_tree.proofs.Kept.{form_kept, stmt_form_kept, fun_kept}
use Rattle.js_tree.proofs.PartsIn.{EachIn, both, each_passed, each_kept, expr_are, stmt_are, fun_are}

-- the number of an entry that comes next
abbrev next_part : Forest → Entry → Part
next_part f (ExprEntryAt node at names) = part.Expr (record { 0 = length f.exprs })
next_part f (StmtEntryAt node at names) = part.Stmt (record { 0 = length f.stmts })
next_part f (FunEntryAt node names) = part.Fun (record { 0 = length f.funs })

entry_are : (f : Forest) (e : Entry) → EachIn f (entry_parts e) → AreEntryParts f e
entry_are f (ExprEntryAt node at names) h = expr_are f node h
entry_are f (StmtEntryAt node at names) h = stmt_are f node h
entry_are f (FunEntryAt node names) h = fun_are f node h

entry_kept : (f g : Forest) → Keeps f g → (e : Entry) → EachIn f (entry_parts e) → entry_spot g e ≡ entry_spot f e
entry_kept f g k (ExprEntryAt node at names) h = ap (λ x. AnExpr (ExprAt at names x)) (form_kept f g k node (expr_are f node h))
entry_kept f g k (StmtEntryAt node at names) h = ap (λ x. AStmt (StmtAt at names x)) (stmt_form_kept f g k node (stmt_are f node h))
entry_kept f g k (FunEntryAt node names) h = ap AFun (fun_kept f g k node names (fun_are f node h))

spot_kept : (f g : Forest) → Keeps f g → (p : Part) → IsIn f p → spot_at g p ≡ spot_at f p
spot_kept f g k (part.Expr id) h = ap AnExpr (k.exprs id h).1
spot_kept f g k (part.Stmt id) h = ap AStmt (k.stmts id h).1
spot_kept f g k (part.Fun id) h = ap AFun (k.funs id h).1

-- the new tree is there
born_in : (f : Forest) (e : Entry) → IsIn (with_spot f (entry_spot f e)) (next_part f e)
born_in f (ExprEntryAt node at names) = (adds_expr f (ExprAt at names (plain_form f node)) (record { 0 = length f.exprs }) refl).is_in
born_in f (StmtEntryAt node at names) = (adds_stmt f (StmtAt at names (plain_stmt_form f node)) (record { 0 = length f.stmts }) refl).is_in
born_in f (FunEntryAt node names) = (adds_fun f (plain_fun f node names) (record { 0 = length f.funs }) refl).is_in

born_is : (f : Forest) (e : Entry) → spot_at (with_spot f (entry_spot f e)) (next_part f e) ≡ entry_spot f e
born_is f (ExprEntryAt node at names) = ap AnExpr (adds_expr f (ExprAt at names (plain_form f node)) (record { 0 = length f.exprs }) refl).here
born_is f (StmtEntryAt node at names) = ap AStmt (adds_stmt f (StmtAt at names (plain_stmt_form f node)) (record { 0 = length f.stmts }) refl).here
born_is f (FunEntryAt node names) = ap AFun (adds_fun f (plain_fun f node names) (record { 0 = length f.funs }) refl).here

first_stands : (f : Forest) (e : Entry) (es : List Entry) → is_ordered f (e ∷ es) ≡ true → Stands (grow f (e ∷ es)) e (next_part f e)
first_stands f e es o =
    let g = with_spot f (entry_spot f e) in
    let h : EachIn f (entry_parts e) = each_passed f (entry_parts e) (both (are_in f (entry_parts e)) (is_ordered g es) o).0 in
    let k : Keeps f (grow g es) = keeps_then f g (grow g es) (keeps_with f (entry_spot f e)) (keeps_grow g es) in
    record {
      same = entry_kept f (grow g es) k e h ∙ sym (born_is f e) ∙ sym (spot_kept g (grow g es) (keeps_grow g es) (next_part f e) (born_in f e));
      parts = entry_are (grow g es) e (each_kept f (grow g es) k (entry_parts e) h);
    }

rest_ordered : (f : Forest) (e : Entry) (es : List Entry) → is_ordered f (e ∷ es) ≡ true → is_ordered (with_spot f (entry_spot f e)) es ≡ true
rest_ordered f e es o = (both (are_in f (entry_parts e)) (is_ordered (with_spot f (entry_spot f e)) es) o).1

module _ (names : List ℕ) where
  -- the trees of a list of nodes are as many as its nodes
  pub record Counted (f : Forest) (ks : List Kind) (es : List ExprEntry) (ss : List StmtEntry) (gs : List FunEntry) : Type 0 where
    pub exprs : length (grow f (entries names ks es ss gs)).exprs ≡ length f.exprs + length es
    pub stmts : length (grow f (entries names ks es ss gs)).stmts ≡ length f.stmts + length ss
    pub funs : length (grow f (entries names ks es ss gs)).funs ≡ length f.funs + length gs

  pub counted : (f : Forest) (ks : List Kind) (es : List ExprEntry) (ss : List StmtEntry) (gs : List FunEntry) → are_counted ks es ss gs ≡ true → Counted f ks es ss gs
  counted f [] [] [] [] c = record { exprs = omega arith; stmts = omega arith; funs = omega arith }
  counted f [] [] [] (g ∷ gs) c = cc
  counted f [] [] (s ∷ ss) gs c = cc
  counted f [] (e ∷ es) ss gs c = cc
  counted f (kind.Expr ∷ ks) [] ss gs c = cc
  counted f (kind.Expr ∷ ks) (e ∷ es) ss gs c =
      let x = entry_spot f (expr_entry names e) in
      let h = counted (with_spot f x) ks es ss gs c in
      record { exprs = omega (arith, h.exprs, length-append f.exprs (ExprAt e.at (slice_range names e.names.from e.names.to) (plain_form f e.node) ∷ [])); stmts = h.stmts; funs = h.funs }
  counted f (kind.Stmt ∷ ks) es [] gs c = cc
  counted f (kind.Stmt ∷ ks) es (s ∷ ss) gs c =
      let x = entry_spot f (stmt_entry names s) in
      let h = counted (with_spot f x) ks es ss gs c in
      record { exprs = h.exprs; stmts = omega (arith, h.stmts, length-append f.stmts (StmtAt s.at (slice_range names s.names.from s.names.to) (plain_stmt_form f s.node) ∷ [])); funs = h.funs }
  counted f (kind.Fun ∷ ks) es ss [] c = cc
  counted f (kind.Fun ∷ ks) es ss (g ∷ gs) c =
      let x = entry_spot f (fun_entry names g) in
      let h = counted (with_spot f x) ks es ss gs c in
      record { exprs = h.exprs; stmts = h.stmts; funs = omega (arith, h.funs, length-append f.funs (plain_fun f g.node (slice_range names g.names.from g.names.to) ∷ [])) }

  -- a number leads to its node
  pub expr_found : (f : Forest) (ks : List Kind) (es : List ExprEntry) (ss : List StmtEntry) (gs : List FunEntry) (i n : ℕ) (d : ExprEntry) → is_ordered f (entries names ks es ss gs) ≡ true → are_counted ks es ss gs ≡ true → i < length es → n ≡ length f.exprs + i → Stands (grow f (entries names ks es ss gs)) (expr_entry names (get_or es i d)) (part.Expr (record { 0 = n }))
  expr_found f [] [] ss gs i n d o c lt is = absurd (omega arith)
  expr_found f [] (e ∷ es) ss gs i n d o c lt is = cc
  expr_found f (kind.Expr ∷ ks) [] ss gs i n d o c lt is = absurd (omega arith)
  expr_found f (kind.Expr ∷ ks) (e ∷ es) ss gs zero n d o c lt is =
      let z : n ≡ length f.exprs = omega (arith, is) in
      rw z (first_stands f (expr_entry names e) (entries names ks es ss gs) o)
  expr_found f (kind.Expr ∷ ks) (e ∷ es) ss gs (suc i) n d o c lt is =
      let x = expr_entry names e in
      let z = length-append f.exprs (ExprAt e.at (slice_range names e.names.from e.names.to) (plain_form f e.node) ∷ []) in
      expr_found (with_spot f (entry_spot f x)) ks es ss gs i n d (rest_ordered f x (entries names ks es ss gs) o) c (omega arith) (omega (arith, is, z))
  expr_found f (kind.Stmt ∷ ks) es [] gs i n d o c lt is = cc
  expr_found f (kind.Stmt ∷ ks) es (s ∷ ss) gs i n d o c lt is =
      let x = stmt_entry names s in
      expr_found (with_spot f (entry_spot f x)) ks es ss gs i n d (rest_ordered f x (entries names ks es ss gs) o) c lt is
  expr_found f (kind.Fun ∷ ks) es ss [] i n d o c lt is = cc
  expr_found f (kind.Fun ∷ ks) es ss (g ∷ gs) i n d o c lt is =
      let x = fun_entry names g in
      expr_found (with_spot f (entry_spot f x)) ks es ss gs i n d (rest_ordered f x (entries names ks es ss gs) o) c lt is

  pub stmt_found : (f : Forest) (ks : List Kind) (es : List ExprEntry) (ss : List StmtEntry) (gs : List FunEntry) (i n : ℕ) (d : StmtEntry) → is_ordered f (entries names ks es ss gs) ≡ true → are_counted ks es ss gs ≡ true → i < length ss → n ≡ length f.stmts + i → Stands (grow f (entries names ks es ss gs)) (stmt_entry names (get_or ss i d)) (part.Stmt (record { 0 = n }))
  stmt_found f [] es [] gs i n d o c lt is = absurd (omega arith)
  stmt_found f [] [] (s ∷ ss) gs i n d o c lt is = cc
  stmt_found f [] (e ∷ es) (s ∷ ss) gs i n d o c lt is = cc
  stmt_found f (kind.Stmt ∷ ks) es [] gs i n d o c lt is = absurd (omega arith)
  stmt_found f (kind.Stmt ∷ ks) es (s ∷ ss) gs zero n d o c lt is =
      let z : n ≡ length f.stmts = omega (arith, is) in
      rw z (first_stands f (stmt_entry names s) (entries names ks es ss gs) o)
  stmt_found f (kind.Stmt ∷ ks) es (s ∷ ss) gs (suc i) n d o c lt is =
      let x = stmt_entry names s in
      let z = length-append f.stmts (StmtAt s.at (slice_range names s.names.from s.names.to) (plain_stmt_form f s.node) ∷ []) in
      stmt_found (with_spot f (entry_spot f x)) ks es ss gs i n d (rest_ordered f x (entries names ks es ss gs) o) c (omega arith) (omega (arith, is, z))
  stmt_found f (kind.Expr ∷ ks) [] ss gs i n d o c lt is = cc
  stmt_found f (kind.Expr ∷ ks) (e ∷ es) ss gs i n d o c lt is =
      let x = expr_entry names e in
      stmt_found (with_spot f (entry_spot f x)) ks es ss gs i n d (rest_ordered f x (entries names ks es ss gs) o) c lt is
  stmt_found f (kind.Fun ∷ ks) es ss [] i n d o c lt is = cc
  stmt_found f (kind.Fun ∷ ks) es ss (g ∷ gs) i n d o c lt is =
      let x = fun_entry names g in
      stmt_found (with_spot f (entry_spot f x)) ks es ss gs i n d (rest_ordered f x (entries names ks es ss gs) o) c lt is

  pub fun_found : (f : Forest) (ks : List Kind) (es : List ExprEntry) (ss : List StmtEntry) (gs : List FunEntry) (i n : ℕ) (d : FunEntry) → is_ordered f (entries names ks es ss gs) ≡ true → are_counted ks es ss gs ≡ true → i < length gs → n ≡ length f.funs + i → Stands (grow f (entries names ks es ss gs)) (fun_entry names (get_or gs i d)) (part.Fun (record { 0 = n }))
  fun_found f [] es ss [] i n d o c lt is = absurd (omega arith)
  fun_found f [] [] [] (g ∷ gs) i n d o c lt is = cc
  fun_found f [] [] (s ∷ ss) (g ∷ gs) i n d o c lt is = cc
  fun_found f [] (e ∷ es) ss (g ∷ gs) i n d o c lt is = cc
  fun_found f (kind.Fun ∷ ks) es ss [] i n d o c lt is = absurd (omega arith)
  fun_found f (kind.Fun ∷ ks) es ss (g ∷ gs) zero n d o c lt is =
      let z : n ≡ length f.funs = omega (arith, is) in
      rw z (first_stands f (fun_entry names g) (entries names ks es ss gs) o)
  fun_found f (kind.Fun ∷ ks) es ss (g ∷ gs) (suc i) n d o c lt is =
      let x = fun_entry names g in
      let z = length-append f.funs (plain_fun f g.node (slice_range names g.names.from g.names.to) ∷ []) in
      fun_found (with_spot f (entry_spot f x)) ks es ss gs i n d (rest_ordered f x (entries names ks es ss gs) o) c (omega arith) (omega (arith, is, z))
  fun_found f (kind.Expr ∷ ks) [] ss gs i n d o c lt is = cc
  fun_found f (kind.Expr ∷ ks) (e ∷ es) ss gs i n d o c lt is =
      let x = expr_entry names e in
      fun_found (with_spot f (entry_spot f x)) ks es ss gs i n d (rest_ordered f x (entries names ks es ss gs) o) c lt is
  fun_found f (kind.Stmt ∷ ks) es [] gs i n d o c lt is = cc
  fun_found f (kind.Stmt ∷ ks) es (s ∷ ss) gs i n d o c lt is =
      let x = stmt_entry names s in
      fun_found (with_spot f (entry_spot f x)) ks es ss gs i n d (rest_ordered f x (entries names ks es ss gs) o) c lt is

  -- one node more, of each kind
  pub expr_counted : (ks : List Kind) (es : List ExprEntry) (ss : List StmtEntry) (gs : List FunEntry) (e : ExprEntry) → are_counted ks es ss gs ≡ true → are_counted (ks ++ kind.Expr ∷ []) (es ++ e ∷ []) ss gs ≡ true
  expr_counted [] [] ss gs e c = c
  expr_counted [] (x ∷ es) ss gs e c = cc
  expr_counted (kind.Expr ∷ ks) [] ss gs e c = cc
  expr_counted (kind.Expr ∷ ks) (x ∷ es) ss gs e c = expr_counted ks es ss gs e c
  expr_counted (kind.Stmt ∷ ks) es [] gs e c = cc
  expr_counted (kind.Stmt ∷ ks) es (x ∷ ss) gs e c = expr_counted ks es ss gs e c
  expr_counted (kind.Fun ∷ ks) es ss [] e c = cc
  expr_counted (kind.Fun ∷ ks) es ss (x ∷ gs) e c = expr_counted ks es ss gs e c

  pub stmt_counted : (ks : List Kind) (es : List ExprEntry) (ss : List StmtEntry) (gs : List FunEntry) (e : StmtEntry) → are_counted ks es ss gs ≡ true → are_counted (ks ++ kind.Stmt ∷ []) es (ss ++ e ∷ []) gs ≡ true
  stmt_counted [] [] [] gs e c = c
  stmt_counted [] (x ∷ es) ss gs e c = cc
  stmt_counted [] [] (x ∷ ss) gs e c = cc
  stmt_counted (kind.Expr ∷ ks) [] ss gs e c = cc
  stmt_counted (kind.Expr ∷ ks) (x ∷ es) ss gs e c = stmt_counted ks es ss gs e c
  stmt_counted (kind.Stmt ∷ ks) es [] gs e c = cc
  stmt_counted (kind.Stmt ∷ ks) es (x ∷ ss) gs e c = stmt_counted ks es ss gs e c
  stmt_counted (kind.Fun ∷ ks) es ss [] e c = cc
  stmt_counted (kind.Fun ∷ ks) es ss (x ∷ gs) e c = stmt_counted ks es ss gs e c

  pub fun_counted : (ks : List Kind) (es : List ExprEntry) (ss : List StmtEntry) (gs : List FunEntry) (e : FunEntry) → are_counted ks es ss gs ≡ true → are_counted (ks ++ kind.Fun ∷ []) es ss (gs ++ e ∷ []) ≡ true
  fun_counted [] [] [] [] e c = refl
  fun_counted [] (x ∷ es) ss gs e c = cc
  fun_counted [] [] (x ∷ ss) gs e c = cc
  fun_counted [] [] [] (x ∷ gs) e c = cc
  fun_counted (kind.Expr ∷ ks) [] ss gs e c = cc
  fun_counted (kind.Expr ∷ ks) (x ∷ es) ss gs e c = fun_counted ks es ss gs e c
  fun_counted (kind.Stmt ∷ ks) es [] gs e c = cc
  fun_counted (kind.Stmt ∷ ks) es (x ∷ ss) gs e c = fun_counted ks es ss gs e c
  fun_counted (kind.Fun ∷ ks) es ss [] e c = cc
  fun_counted (kind.Fun ∷ ks) es ss (x ∷ gs) e c = fun_counted ks es ss gs e c

  pub expr_after : (ks : List Kind) (es : List ExprEntry) (ss : List StmtEntry) (gs : List FunEntry) (e : ExprEntry) → are_counted ks es ss gs ≡ true → entries names (ks ++ kind.Expr ∷ []) (es ++ e ∷ []) ss gs ≡ entries names ks es ss gs ++ expr_entry names e ∷ []
  expr_after [] [] ss gs e c = refl
  expr_after [] (x ∷ es) ss gs e c = cc
  expr_after (kind.Expr ∷ ks) [] ss gs e c = cc
  expr_after (kind.Expr ∷ ks) (x ∷ es) ss gs e c = ap (λ l. expr_entry names x ∷ l) (expr_after ks es ss gs e c)
  expr_after (kind.Stmt ∷ ks) es [] gs e c = cc
  expr_after (kind.Stmt ∷ ks) es (x ∷ ss) gs e c = ap (λ l. stmt_entry names x ∷ l) (expr_after ks es ss gs e c)
  expr_after (kind.Fun ∷ ks) es ss [] e c = cc
  expr_after (kind.Fun ∷ ks) es ss (x ∷ gs) e c = ap (λ l. fun_entry names x ∷ l) (expr_after ks es ss gs e c)

  pub stmt_after : (ks : List Kind) (es : List ExprEntry) (ss : List StmtEntry) (gs : List FunEntry) (e : StmtEntry) → are_counted ks es ss gs ≡ true → entries names (ks ++ kind.Stmt ∷ []) es (ss ++ e ∷ []) gs ≡ entries names ks es ss gs ++ stmt_entry names e ∷ []
  stmt_after [] es [] gs e c = refl
  stmt_after [] [] (x ∷ ss) gs e c = cc
  stmt_after [] (y ∷ es) (x ∷ ss) gs e c = cc
  stmt_after (kind.Expr ∷ ks) [] ss gs e c = cc
  stmt_after (kind.Expr ∷ ks) (x ∷ es) ss gs e c = ap (λ l. expr_entry names x ∷ l) (stmt_after ks es ss gs e c)
  stmt_after (kind.Stmt ∷ ks) es [] gs e c = cc
  stmt_after (kind.Stmt ∷ ks) es (x ∷ ss) gs e c = ap (λ l. stmt_entry names x ∷ l) (stmt_after ks es ss gs e c)
  stmt_after (kind.Fun ∷ ks) es ss [] e c = cc
  stmt_after (kind.Fun ∷ ks) es ss (x ∷ gs) e c = ap (λ l. fun_entry names x ∷ l) (stmt_after ks es ss gs e c)

  pub fun_after : (ks : List Kind) (es : List ExprEntry) (ss : List StmtEntry) (gs : List FunEntry) (e : FunEntry) → are_counted ks es ss gs ≡ true → entries names (ks ++ kind.Fun ∷ []) es ss (gs ++ e ∷ []) ≡ entries names ks es ss gs ++ fun_entry names e ∷ []
  fun_after [] es ss [] e c = refl
  fun_after [] [] [] (x ∷ gs) e c = cc
  fun_after [] [] (y ∷ ss) (x ∷ gs) e c = cc
  fun_after [] (y ∷ es) ss (x ∷ gs) e c = cc
  fun_after (kind.Expr ∷ ks) [] ss gs e c = cc
  fun_after (kind.Expr ∷ ks) (x ∷ es) ss gs e c = ap (λ l. expr_entry names x ∷ l) (fun_after ks es ss gs e c)
  fun_after (kind.Stmt ∷ ks) es [] gs e c = cc
  fun_after (kind.Stmt ∷ ks) es (x ∷ ss) gs e c = ap (λ l. stmt_entry names x ∷ l) (fun_after ks es ss gs e c)
  fun_after (kind.Fun ∷ ks) es ss [] e c = cc
  fun_after (kind.Fun ∷ ks) es ss (x ∷ gs) e c = ap (λ l. fun_entry names x ∷ l) (fun_after ks es ss gs e c)
