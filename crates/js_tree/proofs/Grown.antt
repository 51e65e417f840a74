-- A forest with one tree more.
use Rattle.std.proofs.Common.{◌≡◌, ℕ, ◌<◌, ◌≤◌, List, [], ◌∷◌, ◌++◌, length, get_or, refl, ◌∙◌, arith, length-append}
use Rattle.std.proofs.Math.ListN.{get_or-append}
use Rattle.std.proofs.Math.Seq.{get_or-append_seam}
use Rattle.js_tree.specs.declared.nodes.ExprId.{ExprId}
use Rattle.js_tree.specs.declared.nodes.StmtId.{StmtId}
use Rattle.js_tree.specs.declared.nodes.FunId.{FunId}
use Rattle.js_tree.specs.Plain.{Expr, Stmt, Fun}
use Rattle.js_tree.specs.Forest.{Forest, no_trees, Keeps, AddsExpr, AddsStmt, AddsFun}
use Rattle.js_tree.specs.Parts.{Spot, AnExpr, AStmt, AFun}
use Rattle.js_tree.specs.Arena.{Entry, entry_spot, with_spot, grow, forest}

grow_append : (f : Forest) (a b : List Entry) → grow f (a ++ b) ≡ grow (grow f a) b
grow_append f [] b = refl
grow_append f (e ∷ a) b = grow_append (with_spot f (entry_spot f e)) a b

pub forest_more : (es : List Entry) (e : Entry) → forest (es ++ e ∷ []) ≡ with_spot (forest es) (entry_spot (forest es) e)
unfolding forest
forest_more es e = grow_append no_trees es (e ∷ [])

-- one more at the end, found by its number
pub last_at : {A : Type 0} (xs : List A) (x d : A) (n : ℕ) → n ≡ length xs → get_or (xs ++ x ∷ []) n d ≡ x
last_at xs x d n e = rw e (get_or-append_seam xs x [] d)

longer : {A : Type 0} (xs : List A) (x : A) (n : ℕ) → n ≤ length xs → n < length (xs ++ x ∷ [])
longer xs x n le = omega (arith, length-append xs (x ∷ []))

pub adds_expr : (old : Forest) (x : Expr) (id : ExprId) → id.0 ≡ length old.exprs → AddsExpr old (with_spot old (AnExpr x)) x id
adds_expr old x id number = record {
  same = refl;
  number = number;
  is_in = longer old.exprs x id.0 (omega arith);
  here = last_at old.exprs x _ id.0 number;
  kept = record {
    exprs = λ i lt. (longer old.exprs x i.0 (omega arith), get_or-append old.exprs (x ∷ []) _ i.0 lt);
    stmts = λ i lt. (lt, refl);
    funs = λ i lt. (lt, refl);
  };
  sized = omega (arith, length-append old.exprs (x ∷ []));
}

pub adds_stmt : (old : Forest) (x : Stmt) (id : StmtId) → id.0 ≡ length old.stmts → AddsStmt old (with_spot old (AStmt x)) x id
adds_stmt old x id number = record {
  same = refl;
  number = number;
  is_in = longer old.stmts x id.0 (omega arith);
  here = last_at old.stmts x _ id.0 number;
  kept = record {
    exprs = λ i lt. (lt, refl);
    stmts = λ i lt. (longer old.stmts x i.0 (omega arith), get_or-append old.stmts (x ∷ []) _ i.0 lt);
    funs = λ i lt. (lt, refl);
  };
  sized = omega (arith, length-append old.stmts (x ∷ []));
}

pub adds_fun : (old : Forest) (x : Fun) (id : FunId) → id.0 ≡ length old.funs → AddsFun old (with_spot old (AFun x)) x id
adds_fun old x id number = record {
  same = refl;
  number = number;
  is_in = longer old.funs x id.0 (omega arith);
  here = last_at old.funs x _ id.0 number;
  kept = record {
    exprs = λ i lt. (lt, refl);
    stmts = λ i lt. (lt, refl);
    funs = λ i lt. (longer old.funs x i.0 (omega arith), get_or-append old.funs (x ∷ []) _ i.0 lt);
  };
  sized = omega (arith, length-append old.funs (x ∷ []));
}

pub keeps_same : (f : Forest) → Keeps f f
keeps_same f = record { exprs = λ i lt. (lt, refl); stmts = λ i lt. (lt, refl); funs = λ i lt. (lt, refl) }

pub keeps_then : (a b c : Forest) → Keeps a b → Keeps b c → Keeps a c
keeps_then a b c h g = record {
  exprs = λ i lt. let x = h.exprs i lt in let y = g.exprs i (x.0) in (y.0, y.1 ∙ x.1);
  stmts = λ i lt. let x = h.stmts i lt in let y = g.stmts i (x.0) in (y.0, y.1 ∙ x.1);
  funs = λ i lt. let x = h.funs i lt in let y = g.funs i (x.0) in (y.0, y.1 ∙ x.1);
}

pub keeps_with : (f : Forest) (s : Spot) → Keeps f (with_spot f s)
keeps_with f (AnExpr e) = (adds_expr f e (record { 0 = length f.exprs }) refl).kept
keeps_with f (AStmt s) = (adds_stmt f s (record { 0 = length f.stmts }) refl).kept
keeps_with f (AFun g) = (adds_fun f g (record { 0 = length f.funs }) refl).kept

pub keeps_grow : (f : Forest) (es : List Entry) → Keeps f (grow f es)
keeps_grow f [] = keeps_same f
keeps_grow f (e ∷ es) = let g = with_spot f (entry_spot f e) in keeps_then f g (grow g es) (keeps_with f (entry_spot f e)) (keeps_grow g es)
