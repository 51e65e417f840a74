-- Loops: a pass, its last part, and the frames of the parts of a `for`.
use Rattle.std.proofs.Common.{◌≡◌, ℕ, zero, suc, ◌+◌, List, [], ◌∷◌, refl, ap, ◌∙◌, drop, arith}
use Rattle.js_tree.specs.Forest.{Forest, stmt_at}
use Rattle.js_tree.specs.Lists.{stmt_list}
use Rattle.js_tree.specs.Plain as tree
use Rattle.js_tree.specs.Plain.{Stmt}
use Rattle.js_tree.specs.declared.nodes.StmtId.{StmtId}
use Rattle.store_cells.specs.Cells.{PlainCell}
use Rattle.widget_meaning.specs.OwnState.{State}
use Rattle.widget_meaning.specs.Values as meaning
use Rattle.widget_meaning.specs.Values.{Continue, Normal}
use Rattle.widget_meaning.specs.Plan as plan
use Rattle.widget_meaning.specs.Plan.{DoLoop, ForInLoop, ForLoop, Loop, WhileLoop, and_then, on_normal, on_value}
use Rattle.widget_meaning.specs.Calls.{statements}
use Rattle.widget_meaning.specs.Meaning.{body}
use Rattle.widget_meaning.specs.Statements.{declarations, expressions, loop_end, pass}
use Rattle.js_flow.specs.declared.frame.Frame.TheVariants as frame
use Rattle.js_flow.specs.declared.job.Place.{Place}
use Rattle.js_flow.specs.Fine.{FineFrame, IsStmtAt}
use Rattle.js_flow.specs.Frames.{taken}
use Rattle.js_flow.specs.Free.{frame_free}
use Rattle.js_flow.specs.Parts.{decls_of, first_of, forest_at, last_of, loop_body, loop_of}
use Rattle.js_flow.specs.Statements.{loop_again, loop_next}
use Rattle.js_flow.specs.Views.{place_of}
use Rattle.js_direct.specs.declared.statements.After.{After}
use Rattle.js_direct.specs.declared.statements.After.TheVariants as after
use Rattle.js_direct.specs.declared.statements.Part.{Part}
use Rattle.js_direct.specs.declared.statements.Part.TheVariants as part
use Rattle.js_direct.specs.Towards.{IsDecls, IsExprs, frame_after, frame_in, part_of}

-- a pass: the body, and then what comes after it
pub pass_is : (i : Stmt) (p : plan.Place) (s : State) → pass (loop_of i) p s ≡ and_then (statements (stmt_list (loop_body i)) p s) (loop_next (loop_of i) p)
pass_is (tree.StmtAt at names (tree.Var ds)) p s = refl
pass_is (tree.StmtAt at names (tree.Only e)) p s = refl
pass_is (tree.StmtAt at names (tree.If e a b)) p s = refl
pass_is (tree.StmtAt at names (tree.While e b)) p s = refl
pass_is (tree.StmtAt at names (tree.DoWhile e b)) p s = refl
pass_is (tree.StmtAt at names (tree.For first test next b)) p s = refl
pass_is (tree.StmtAt at names (tree.ForIn is_declared x e b)) p s = refl
pass_is (tree.StmtAt at names (tree.Continue x)) p s = refl
pass_is (tree.StmtAt at names (tree.Break x)) p s = refl
pass_is (tree.StmtAt at names (tree.Return e)) p s = refl
pass_is (tree.StmtAt at names (tree.Throw e)) p s = refl
pass_is (tree.StmtAt at names (tree.With e b)) p s = refl
pass_is (tree.StmtAt at names (tree.Switch e cs)) p s = refl
pass_is (tree.StmtAt at names (tree.Try a c b)) p s = refl
pass_is (tree.StmtAt at names (tree.Label x i)) p s = refl

-- after the body: the last part, and then the test
pub next_is : (i : Stmt) (p : plan.Place) (s : State) → and_then (expressions (last_of i) p s) (loop_again (loop_of i) p) ≡ loop_next (loop_of i) p Normal s
next_is (tree.StmtAt at names (tree.Var ds)) p s = refl
next_is (tree.StmtAt at names (tree.Only e)) p s = refl
next_is (tree.StmtAt at names (tree.If e a b)) p s = refl
next_is (tree.StmtAt at names (tree.While e b)) p s = refl
next_is (tree.StmtAt at names (tree.DoWhile e b)) p s = refl
next_is (tree.StmtAt at names (tree.For first test next b)) p s = refl
next_is (tree.StmtAt at names (tree.ForIn is_declared x e b)) p s = refl
next_is (tree.StmtAt at names (tree.Continue x)) p s = refl
next_is (tree.StmtAt at names (tree.Break x)) p s = refl
next_is (tree.StmtAt at names (tree.Return e)) p s = refl
next_is (tree.StmtAt at names (tree.Throw e)) p s = refl
next_is (tree.StmtAt at names (tree.With e b)) p s = refl
next_is (tree.StmtAt at names (tree.Switch e cs)) p s = refl
next_is (tree.StmtAt at names (tree.Try a c b)) p s = refl
next_is (tree.StmtAt at names (tree.Label x i)) p s = refl

-- a test that is next passes all but a normal end
pub again_normal : (l : Loop) (p : plan.Place) (o : meaning.Completion) (s : State) → loop_again l p o s ≡ on_normal o s (loop_again l p Normal s)
again_normal (WhileLoop e b) p o s = refl
again_normal (DoLoop b e) p o s = refl
again_normal (ForLoop test next b) p o s = refl
again_normal (ForInLoop v x y ys b) p o s = passed o s
  where
    passed : (o : meaning.Completion) (s : State) → plan.Ret o s ≡ on_normal o s (plan.Ret Normal s)
    passed meaning.Normal s = refl
    passed (meaning.Is v) s = refl
    passed (meaning.Refers r) s = refl
    passed (meaning.Return v) s = refl
    passed meaning.Break s = refl
    passed meaning.Continue s = refl
    passed (meaning.Throw v) s = refl

pub continued : (l : Loop) (p : plan.Place) (s : State) → loop_next l p Normal s ≡ loop_next l p Continue s
continued (WhileLoop e b) p s = refl
continued (DoLoop b e) p s = refl
continued (ForLoop test next b) p s = refl
continued (ForInLoop v x y ys b) p s = refl

-- the frame after the value with which a statement ends
pub after_taken : (fs : List Forest) (w : ℕ) (cells : List PlainCell) (a : After) (o : meaning.Completion) (t : State) → taken fs w cells (frame.Statement (frame_after a)) o t ≡ on_value o t (λ v. taken fs w cells (frame.Statement (frame_after a)) (meaning.Is v) t)
after_taken fs w cells after.Nothing o t = refl
after_taken fs w cells after.Return o t = refl
after_taken fs w cells after.Throw o t = refl

pub after_fine : (fs : List Forest) (w : ℕ) (cells : List PlainCell) (a : After) → FineFrame fs w cells (frame.Statement (frame_after a))
after_fine fs w cells after.Nothing = tt
after_fine fs w cells after.Return = tt
after_fine fs w cells after.Throw = tt

pub after_free : (a : After) → frame_free (frame.Statement (frame_after a)) ≡ 1
after_free after.Nothing = refl
after_free after.Return = refl
after_free after.Throw = refl

-- the frame after an expression of a part of a `for`
pub part_taken : (fs : List Forest) (w : ℕ) (cells : List PlainCell) (q : Part) (i : StmtId) (n : ℕ) (p : Place) (o : meaning.Completion) (t : State)
    → taken fs w cells (frame.Statement (frame_in q i n p)) o t ≡ on_value o t (λ v. expressions (drop n (part_of q (stmt_at (forest_at fs p.code) i))) (place_of w cells p) t)
part_taken fs w cells part.First i n p o t = refl
part_taken fs w cells part.Last i n p o t = refl

pub part_fine : (fs : List Forest) (w : ℕ) (cells : List PlainCell) (q : Part) (i : StmtId) (n : ℕ) (p : Place) → IsStmtAt fs w cells i p → FineFrame fs w cells (frame.Statement (frame_in q i n p))
part_fine fs w cells part.First i n p h = h
part_fine fs w cells part.Last i n p h = h

pub part_free : (q : Part) (i : StmtId) (n : ℕ) (p : Place) → frame_free (frame.Statement (frame_in q i n p)) ≡ 1
part_free part.First i n p = refl
part_free part.Last i n p = refl

-- behind the end of a list there is nothing
pub drop_more : {A : Type 0} (l : List A) (n : ℕ) → drop n l ≡ [] → drop (n + 1) l ≡ []
drop_more l n h = ap (λ k. drop k l) (one n) ∙ after_end n l h
  where
    one : (n : ℕ) → n + 1 ≡ suc n
    one n = omega arith

    after_end : {X : Type 0} (n : ℕ) (l : List X) → drop n l ≡ [] → drop (suc n) l ≡ []
    after_end n [] h = refl
    after_end zero (x ∷ l) h = absurd (more h)
      where
        more : {B : Type 0} {a : B} {bs : List B} → a ∷ bs ≡ [] → ⊥
        more e = cc
    after_end (suc n) (x ∷ l) h = after_end n l h

-- a `break` ends a loop, and what is no end of a pass passes
pub loop_broken : (l : Loop) (p : plan.Place) (s : State) → loop_next l p meaning.Break s ≡ plan.Ret Normal s
loop_broken (WhileLoop e b) p s = refl
loop_broken (DoLoop b e) p s = refl
loop_broken (ForLoop test next b) p s = refl
loop_broken (ForInLoop v x y ys b) p s = refl

pub loop_other : (l : Loop) (p : plan.Place) (o : meaning.Completion) (s : State) → loop_next l p o s ≡ loop_end o s (loop_next l p Normal s)
loop_other (WhileLoop e b) p o s = refl
loop_other (DoLoop b e) p o s = refl
loop_other (ForLoop test next b) p o s = refl
loop_other (ForInLoop v x y ys b) p o s = refl

-- ## The two kinds of a `for`

-- a `for` with such a first part
abbrev pub IsForWith : (tree.ForInit → Type 0) → Stmt → Type 0
IsForWith P (tree.StmtAt at names (tree.For first test next b)) = P first
IsForWith P _ = ⊥

pub for_declared : (i : Stmt) (p : plan.Place) (s : State) → IsForWith IsDecls i → body (plan.Exec i p) s ≡ and_then (declarations (decls_of i) p s) (loop_again (loop_of i) p)
for_declared (tree.StmtAt at names (tree.For (tree.DeclsFirst ds) test next b)) p s h = refl
for_declared (tree.StmtAt at names (tree.For (tree.ExprsFirst es) test next b)) p s h = absurd h
for_declared _ p s h = absurd h

pub for_listed : (i : Stmt) (p : plan.Place) (s : State) → IsForWith IsExprs i → body (plan.Exec i p) s ≡ and_then (expressions (first_of i) p s) (loop_again (loop_of i) p)
for_listed (tree.StmtAt at names (tree.For (tree.DeclsFirst ds) test next b)) p s h = absurd h
for_listed (tree.StmtAt at names (tree.For (tree.ExprsFirst es) test next b)) p s h = refl
for_listed _ p s h = absurd h
