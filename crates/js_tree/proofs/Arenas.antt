-- What a tree keeps, as it grows and as it is read.
use Rattle.std.proofs.Common.{◌≡◌, ℕ, ◌+◌, ◌-◌, ◌<◌, ◌≤◌, List, [], ◌∷◌, ◌++◌, length, get_or, take, drop, refl, sym, ap, ◌∙◌, subst, arith, length-append, Bool, true, false}
use Rattle.std.proofs.lemmas.List.{take_at, take-append-le, drop_at, drop-append-le, length-drop, append-nil}
use Rattle.std.proofs.lemmas.List.Elements.{All-push}
use Rattle.std.specs.Prelude.{All, map, slice_range, if◌then◌else◌}
use Rattle.js_tree.specs.declared.nodes.ExprId.{ExprId}
use Rattle.js_tree.specs.declared.nodes.StmtId.{StmtId}
use Rattle.js_tree.specs.declared.nodes.FunId.{FunId}
use Rattle.js_tree.specs.declared.nodes.Part.TheVariants as part
use Rattle.js_tree.specs.declared.tree.Span.{Span}
use Rattle.js_tree.specs.declared.tree.ExprEntry.{ExprEntry}
use Rattle.js_tree.specs.declared.tree.StmtEntry.{StmtEntry}
use Rattle.js_tree.specs.declared.tree.FunEntry.{FunEntry}
use Rattle.js_tree.specs.declared.tree.Kind.{Kind}
use Rattle.js_tree.specs.declared.tree.Kind.TheVariants as kind
use Rattle.js_tree.specs.Plain.{Expr, Stmt, Fun, expr_place, expr_names, stmt_place, stmt_names, fun_names}
use Rattle.js_tree.specs.Parts.{Spot, AnExpr, AStmt, AFun}
use Rattle.js_tree.specs.Forest.{Forest, AddsExpr, AddsStmt, AddsFun, no_trees, IsExpr, IsStmt, IsFun, expr_at, stmt_at, fun_at, AreExprParts, AreStmtParts, AreFunParts, plain_expr, plain_stmt, plain_fun, stmts_at, Keeps}
use Rattle.js_tree.specs.Arena.{Entry, names_of, IsWithin, expr_entry, stmt_entry, fun_entry, entries, entry_spot, with_spot, grow, forest, entry_parts, are_in, is_ordered, IsArena, Stands}
use Rattle.js_tree.proofs.Grown.{forest_more, keeps_with, adds_expr, adds_stmt, adds_fun}
use Rattle.js_tree.proofs.Kept.{first_of_all, rest_of_all, stmts_kept}
use Rattle.js_tree.proofs.PartsIn.{EachIn, both, and_true, each_passed, each_passes, each_kept, map_each, map_all, expr_each, stmt_each, fun_each}
use Rattle.js_tree.proofs.Births.{Counted, counted, expr_found, stmt_found, fun_found, expr_counted, stmt_counted, fun_counted, expr_after, stmt_after, fun_after}

-- a part of the list of names stays as the list grows
span_kept : (names more : List ℕ) (span : Span) → IsWithin names span → names_of (names ++ more) span ≡ names_of names span
span_kept names more span h =
    ap (take (span.to - span.from)) (drop-append-le span.from names more (omega (arith, h.0, h.1)))
    ∙ take-append-le (span.to - span.from) (drop span.from names) more (omega (arith, h.0, h.1, length-drop span.from names))

pub span_last : (names more : List ℕ) (span : Span) → span.from ≡ length names → span.to ≡ length (names ++ more) → names_of (names ++ more) span ≡ more
span_last names more span from to =
    let n : span.to - span.from ≡ length more = omega (arith, from, to, length-append names more) in
    rw (n, drop_at names more span.from (sym from)) (ap (take (length more)) (sym (append-nil more)) ∙ take_at more [] (length more) refl)

pub span_within : (names more : List ℕ) (span : Span) → span.from ≡ length names → span.to ≡ length (names ++ more) → IsWithin (names ++ more) span
span_within names more span from to = (omega (arith, from, to, length-append names more), omega (arith, to))

within_more : (names more : List ℕ) (span : Span) → IsWithin names span → IsWithin (names ++ more) span
within_more names more span h = (h.0, omega (arith, h.1, length-append names more))

entries_kept : (names more : List ℕ) (ks : List Kind) (es : List ExprEntry) (ss : List StmtEntry) (gs : List FunEntry) → All (λ e. IsWithin names e.names) es → All (λ s. IsWithin names s.names) ss → All (λ g. IsWithin names g.names) gs → entries (names ++ more) ks es ss gs ≡ entries names ks es ss gs
entries_kept names more [] es ss gs a b c = refl
entries_kept names more (kind.Expr ∷ ks) [] ss gs a b c = refl
entries_kept names more (kind.Expr ∷ ks) (e ∷ es) ss gs a b c =
    let P : ExprEntry → Type 0 = λ x. IsWithin names x.names in
    let s = span_kept names more e.names (first_of_all P e es a) in
    rw (s, entries_kept names more ks es ss gs (rest_of_all P e es a) b c) refl
entries_kept names more (kind.Stmt ∷ ks) es [] gs a b c = refl
entries_kept names more (kind.Stmt ∷ ks) es (e ∷ ss) gs a b c =
    let P : StmtEntry → Type 0 = λ x. IsWithin names x.names in
    let s = span_kept names more e.names (first_of_all P e ss b) in
    rw (s, entries_kept names more ks es ss gs a (rest_of_all P e ss b) c) refl
entries_kept names more (kind.Fun ∷ ks) es ss [] a b c = refl
entries_kept names more (kind.Fun ∷ ks) es ss (e ∷ gs) a b c =
    let P : FunEntry → Type 0 = λ x. IsWithin names x.names in
    let s = span_kept names more e.names (first_of_all P e gs c) in
    rw (s, entries_kept names more ks es ss gs a b (rest_of_all P e gs c)) refl

ordered_after : (f : Forest) (es : List Entry) (e : Entry) → is_ordered f es ≡ true → EachIn (grow f es) (entry_parts e) → is_ordered f (es ++ e ∷ []) ≡ true
ordered_after f [] e o h = and_true (are_in f (entry_parts e)) true (each_passes f (entry_parts e) h) refl
ordered_after f (x ∷ es) e o h =
    let g = with_spot f (entry_spot f x) in
    let q = both (are_in f (entry_parts x)) (is_ordered g es) o in
    and_true (are_in f (entry_parts x)) (is_ordered g (es ++ e ∷ [])) q.0 (ordered_after g es e q.1 h)

ordered_more : (es : List Entry) (e : Entry) → is_ordered no_trees es ≡ true → EachIn (forest es) (entry_parts e) → is_ordered no_trees (es ++ e ∷ []) ≡ true
unfolding forest
ordered_more es e o h = ordered_after no_trees es e o h

keeps_more : (es : List Entry) (e : Entry) → Keeps (forest es) (forest (es ++ e ∷ []))
keeps_more es e = rw (forest_more es e) (keeps_with (forest es) (entry_spot (forest es) e))

program_more : (es : List Entry) (e : Entry) (program : List StmtId) → are_in (forest es) (map part.Stmt program) ≡ true → are_in (forest (es ++ e ∷ [])) (map part.Stmt program) ≡ true
program_more es e program h = each_passes _ _ (each_kept (forest es) _ (keeps_more es e) (map part.Stmt program) (each_passed _ _ h))

-- the program stays
pub program_stays : (es : List Entry) (e : Entry) (program : List StmtId) → are_in (forest es) (map part.Stmt program) ≡ true → stmts_at (forest (es ++ e ∷ [])) program ≡ stmts_at (forest es) program
program_stays es e program h = stmts_kept (forest es) (forest (es ++ e ∷ [])) (keeps_more es e) _ program (map_all (forest es) part.Stmt program (each_passed _ _ h))

-- the tree of a spot of each kind
abbrev spot_expr : Expr → Spot → Expr
spot_expr d (AnExpr e) = e
spot_expr d _ = d

abbrev spot_stmt : Stmt → Spot → Stmt
spot_stmt d (AStmt s) = s
spot_stmt d _ = d

abbrev spot_fun : Fun → Spot → Fun
spot_fun d (AFun g) = g
spot_fun d _ = d

module _ (names : List ℕ) (ks : List Kind) (es : List ExprEntry) (ss : List StmtEntry) (gs : List FunEntry) (program : List StmtId) (a : IsArena names ks es ss gs program) where
  abbrev pub all : List Entry
  all = entries names ks es ss gs

  pub program_is_in : All (IsStmt (forest all)) program
  program_is_in = map_all (forest all) part.Stmt program (each_passed _ _ a.program_in)

  -- with more names in the list
  pub trees_kept : (more : List ℕ) → entries (names ++ more) ks es ss gs ≡ all
  trees_kept more = entries_kept names more ks es ss gs a.exprs_within a.stmts_within a.funs_within

  pub arena_names : (more : List ℕ) → IsArena (names ++ more) ks es ss gs program
  arena_names more = record {
    counted = a.counted;
    ordered = rw (trees_kept more) a.ordered;
    program_in = rw (trees_kept more) a.program_in;
    exprs_within = λ k d lt. within_more names more _ (a.exprs_within k d lt);
    stmts_within = λ k d lt. within_more names more _ (a.stmts_within k d lt);
    funs_within = λ k d lt. within_more names more _ (a.funs_within k d lt);
  }

  -- the list of names may have grown
  pub trees_if : (b : Bool) (more : List ℕ) → entries (if b then names ++ more else names) ks es ss gs ≡ all
  trees_if true more = trees_kept more
  trees_if false more = refl

  pub arena_if : (b : Bool) (more : List ℕ) → IsArena (if b then names ++ more else names) ks es ss gs program
  arena_if true more = arena_names more
  arena_if false more = a

  pub arena_program : (list : List StmtId) → All (IsStmt (forest all)) list → IsArena names ks es ss gs list
  arena_program list h = record {
    counted = a.counted;
    ordered = a.ordered;
    program_in = each_passes _ _ (map_each (forest all) part.Stmt list h);
    exprs_within = a.exprs_within;
    stmts_within = a.stmts_within;
    funs_within = a.funs_within;
  }

  -- after each kind of push
  pub expr_more : (e : ExprEntry) → entries names (ks ++ kind.Expr ∷ []) (es ++ e ∷ []) ss gs ≡ all ++ expr_entry names e ∷ []
  expr_more e = expr_after names ks es ss gs e a.counted

  pub arena_expr : (e : ExprEntry) → AreExprParts (forest all) e.node → IsWithin names e.names → IsArena names (ks ++ kind.Expr ∷ []) (es ++ e ∷ []) ss gs program
  arena_expr e parts within = record {
    counted = expr_counted names ks es ss gs e a.counted;
    ordered = rw (expr_more e) (ordered_more all (expr_entry names e) a.ordered (expr_each (forest all) e.node parts));
    program_in = rw (expr_more e) (program_more all (expr_entry names e) program a.program_in);
    exprs_within = All-push (λ x. IsWithin names x.names) es e a.exprs_within within;
    stmts_within = a.stmts_within;
    funs_within = a.funs_within;
  }

  pub stmt_more : (s : StmtEntry) → entries names (ks ++ kind.Stmt ∷ []) es (ss ++ s ∷ []) gs ≡ all ++ stmt_entry names s ∷ []
  stmt_more s = stmt_after names ks es ss gs s a.counted

  pub arena_stmt : (s : StmtEntry) → AreStmtParts (forest all) s.node → IsWithin names s.names → IsArena names (ks ++ kind.Stmt ∷ []) es (ss ++ s ∷ []) gs program
  arena_stmt s parts within = record {
    counted = stmt_counted names ks es ss gs s a.counted;
    ordered = rw (stmt_more s) (ordered_more all (stmt_entry names s) a.ordered (stmt_each (forest all) s.node parts));
    program_in = rw (stmt_more s) (program_more all (stmt_entry names s) program a.program_in);
    exprs_within = a.exprs_within;
    stmts_within = All-push (λ x. IsWithin names x.names) ss s a.stmts_within within;
    funs_within = a.funs_within;
  }

  pub fun_more : (g : FunEntry) → entries names (ks ++ kind.Fun ∷ []) es ss (gs ++ g ∷ []) ≡ all ++ fun_entry names g ∷ []
  fun_more g = fun_after names ks es ss gs g a.counted

  pub arena_fun : (g : FunEntry) → AreFunParts (forest all) g.node → IsWithin names g.names → IsArena names (ks ++ kind.Fun ∷ []) es ss (gs ++ g ∷ []) program
  arena_fun g parts within = record {
    counted = fun_counted names ks es ss gs g a.counted;
    ordered = rw (fun_more g) (ordered_more all (fun_entry names g) a.ordered (fun_each (forest all) g.node parts));
    program_in = rw (fun_more g) (program_more all (fun_entry names g) program a.program_in);
    exprs_within = a.exprs_within;
    stmts_within = a.stmts_within;
    funs_within = All-push (λ x. IsWithin names x.names) gs g a.funs_within within;
  }

  -- there are as many trees of a kind as nodes
  counts : Counted names no_trees ks es ss gs
  counts = counted names no_trees ks es ss gs a.counted

  pub exprs_count : length es ≡ length (forest all).exprs
  unfolding forest
  exprs_count = omega (arith, counts.exprs)

  pub stmts_count : length ss ≡ length (forest all).stmts
  unfolding forest
  stmts_count = omega (arith, counts.stmts)

  pub funs_count : length gs ≡ length (forest all).funs
  unfolding forest
  funs_count = omega (arith, counts.funs)

  pub expr_in : (id : ExprId) → IsExpr (forest all) id → id.0 < length es
  expr_in id h = omega (arith, h, exprs_count)

  pub stmt_in : (id : StmtId) → IsStmt (forest all) id → id.0 < length ss
  stmt_in id h = omega (arith, h, stmts_count)

  pub fun_in : (id : FunId) → IsFun (forest all) id → id.0 < length gs
  fun_in id h = omega (arith, h, funs_count)

  -- a number leads to its node
  pub expr_stands : (id : ExprId) (e : ExprEntry) → IsExpr (forest all) id → e ≡ get_or es id.0 e → Stands (forest all) (expr_entry names e) (part.Expr id)
  unfolding forest
  expr_stands id e h is = subst (λ x. Stands (grow no_trees all) (expr_entry names x) (part.Expr id)) (sym is) (expr_found names no_trees ks es ss gs id.0 id.0 e a.ordered a.counted (expr_in id h) (omega arith))

  pub stmt_stands : (id : StmtId) (s : StmtEntry) → IsStmt (forest all) id → s ≡ get_or ss id.0 s → Stands (forest all) (stmt_entry names s) (part.Stmt id)
  unfolding forest
  stmt_stands id s h is = subst (λ x. Stands (grow no_trees all) (stmt_entry names x) (part.Stmt id)) (sym is) (stmt_found names no_trees ks es ss gs id.0 id.0 s a.ordered a.counted (stmt_in id h) (omega arith))

  pub fun_stands : (id : FunId) (g : FunEntry) → IsFun (forest all) id → g ≡ get_or gs id.0 g → Stands (forest all) (fun_entry names g) (part.Fun id)
  unfolding forest
  fun_stands id g h is = subst (λ x. Stands (grow no_trees all) (fun_entry names x) (part.Fun id)) (sym is) (fun_found names no_trees ks es ss gs id.0 id.0 g a.ordered a.counted (fun_in id h) (omega arith))

  pub adds_one_expr : (old : Forest) (e : ExprEntry) (own : List ℕ) (id : ExprId) → old ≡ forest all → own ≡ names_of names e.names → id.0 ≡ length old.exprs → AddsExpr old (forest (entries names (ks ++ kind.Expr ∷ []) (es ++ e ∷ []) ss gs)) (plain_expr old e.node e.at own) id
  adds_one_expr old e own id is own_is number = rw (is, own_is, expr_more e, forest_more all (expr_entry names e)) (adds_expr (forest all) (plain_expr (forest all) e.node e.at (names_of names e.names)) id (subst (λ f. id.0 ≡ length f.exprs) is number))

  pub program_with_expr : (e : ExprEntry) → stmts_at (forest (entries names (ks ++ kind.Expr ∷ []) (es ++ e ∷ []) ss gs)) program ≡ stmts_at (forest all) program
  program_with_expr e = rw (expr_more e) (program_stays all (expr_entry names e) program a.program_in)

  pub expr_is : (id : ExprId) (e : ExprEntry) → IsExpr (forest all) id → e ≡ get_or es id.0 e → plain_expr (forest all) e.node e.at (names_of names e.names) ≡ expr_at (forest all) id
  expr_is id e h is = ap (spot_expr (expr_at (forest all) id)) (expr_stands id e h is).same

  pub expr_reads : (id : ExprId) (e : ExprEntry) → IsExpr (forest all) id → e ≡ get_or es id.0 e → plain_expr (forest all) e.node (expr_place (expr_at (forest all) id)) (expr_names (expr_at (forest all) id)) ≡ expr_at (forest all) id
  expr_reads id e h is = subst (λ x. plain_expr (forest all) e.node (expr_place x) (expr_names x) ≡ x) (expr_is id e h is) refl

  pub adds_one_stmt : (old : Forest) (s : StmtEntry) (own : List ℕ) (id : StmtId) → old ≡ forest all → own ≡ names_of names s.names → id.0 ≡ length old.stmts → AddsStmt old (forest (entries names (ks ++ kind.Stmt ∷ []) es (ss ++ s ∷ []) gs)) (plain_stmt old s.node s.at own) id
  adds_one_stmt old s own id is own_is number = rw (is, own_is, stmt_more s, forest_more all (stmt_entry names s)) (adds_stmt (forest all) (plain_stmt (forest all) s.node s.at (names_of names s.names)) id (subst (λ f. id.0 ≡ length f.stmts) is number))

  pub program_with_stmt : (s : StmtEntry) → stmts_at (forest (entries names (ks ++ kind.Stmt ∷ []) es (ss ++ s ∷ []) gs)) program ≡ stmts_at (forest all) program
  program_with_stmt s = rw (stmt_more s) (program_stays all (stmt_entry names s) program a.program_in)

  pub stmt_is : (id : StmtId) (s : StmtEntry) → IsStmt (forest all) id → s ≡ get_or ss id.0 s → plain_stmt (forest all) s.node s.at (names_of names s.names) ≡ stmt_at (forest all) id
  stmt_is id s h is = ap (spot_stmt (stmt_at (forest all) id)) (stmt_stands id s h is).same

  pub stmt_reads : (id : StmtId) (s : StmtEntry) → IsStmt (forest all) id → s ≡ get_or ss id.0 s → plain_stmt (forest all) s.node (stmt_place (stmt_at (forest all) id)) (stmt_names (stmt_at (forest all) id)) ≡ stmt_at (forest all) id
  stmt_reads id s h is = subst (λ x. plain_stmt (forest all) s.node (stmt_place x) (stmt_names x) ≡ x) (stmt_is id s h is) refl

  pub adds_one_fun : (old : Forest) (g : FunEntry) (own : List ℕ) (id : FunId) → old ≡ forest all → own ≡ names_of names g.names → id.0 ≡ length old.funs → AddsFun old (forest (entries names (ks ++ kind.Fun ∷ []) es ss (gs ++ g ∷ []))) (plain_fun old g.node own) id
  adds_one_fun old g own id is own_is number = rw (is, own_is, fun_more g, forest_more all (fun_entry names g)) (adds_fun (forest all) (plain_fun (forest all) g.node (names_of names g.names)) id (subst (λ f. id.0 ≡ length f.funs) is number))

  pub program_with_fun : (g : FunEntry) → stmts_at (forest (entries names (ks ++ kind.Fun ∷ []) es ss (gs ++ g ∷ []))) program ≡ stmts_at (forest all) program
  program_with_fun g = rw (fun_more g) (program_stays all (fun_entry names g) program a.program_in)

  pub fun_is : (id : FunId) (g : FunEntry) → IsFun (forest all) id → g ≡ get_or gs id.0 g → plain_fun (forest all) g.node (names_of names g.names) ≡ fun_at (forest all) id
  fun_is id g h is = ap (spot_fun (fun_at (forest all) id)) (fun_stands id g h is).same

  pub fun_reads : (id : FunId) (g : FunEntry) → IsFun (forest all) id → g ≡ get_or gs id.0 g → plain_fun (forest all) g.node (fun_names (fun_at (forest all) id)) ≡ fun_at (forest all) id
  fun_reads id g h is = subst (λ x. plain_fun (forest all) g.node (fun_names x) ≡ x) (fun_is id g h is) refl

  pub expr_within : (id : ExprId) (e : ExprEntry) → IsExpr (forest all) id → e ≡ get_or es id.0 e → IsWithin names e.names
  expr_within id e h is = subst (λ x. IsWithin names x.names) (sym is) (a.exprs_within id.0 e (expr_in id h))

  pub stmt_within : (id : StmtId) (s : StmtEntry) → IsStmt (forest all) id → s ≡ get_or ss id.0 s → IsWithin names s.names
  stmt_within id s h is = subst (λ x. IsWithin names x.names) (sym is) (a.stmts_within id.0 s (stmt_in id h))

  pub fun_within : (id : FunId) (g : FunEntry) → IsFun (forest all) id → g ≡ get_or gs id.0 g → IsWithin names g.names
  fun_within id g h is = subst (λ x. IsWithin names x.names) (sym is) (a.funs_within id.0 g (fun_in id h))
