-- A frame of an expression or a target waits for a part: what is left to do, by how the part ended.
use Rattle.std.proofs.Common.{◌≡◌, ℕ, ◌+◌, ◌-◌, ◌≤◌, [], ◌∷◌, ◌++◌, List, refl, sym, subst, ◌∙◌, arith}
use Rattle.std.specs.Prelude.{IfOk, Result, Ok, Err}
use Rattle.js_tree.specs.Forest.{Forest}
use Rattle.store_cells.specs.declared.value.Value.{Value}
use Rattle.store_cells.specs.Cells.{Cells, PlainCell}
use Rattle.widget_meaning.specs.Values as meaning
use Rattle.widget_meaning.specs.OwnState.{State}
use Rattle.widget_meaning.specs.Plan.{Plan, Ret, and_then}
use Rattle.js_image.specs.Image.{Rest, image, seen}
use Rattle.js_image.specs.Held.{IsFine, Kept}
use Rattle.js_flow.specs.declared.frame.Frame.{Frame}
use Rattle.js_flow.specs.declared.frame.Frame.TheVariants as frame
use Rattle.js_flow.specs.declared.frame.FormFrame.{FormFrame}
use Rattle.js_flow.specs.declared.job.Completion.{Completion}
use Rattle.js_flow.specs.declared.job.Completion.TheVariants as completion
use Rattle.js_flow.specs.declared.job.Reference.{Reference}
use Rattle.js_flow.specs.Forms.{form_taken}
use Rattle.js_flow.specs.Frames.{taken}
use Rattle.js_flow.specs.Fine.{FineForm, FineFrame, FineReference, IsExprAt}
use Rattle.js_flow.specs.Free.{frame_free}
use Rattle.js_flow.specs.Views.{completion_of, reference_of}
use Rattle.js_tree.specs.declared.nodes.ExprId.{ExprId}
use Rattle.object_store.specs.Grows.{Grows}
use Rattle.js_flow.specs.declared.job.Place.{Place}
use Rattle.js_flow.proofs.Stays.{place_fine}
use Rattle.js_expressions.proofs.Passing.{IsAbrupt, passed}
use Rattle.js_direct.specs.declared.run.Ended.{Ended}
use Rattle.js_direct.specs.declared.run.Ended.TheVariants as ended
use Rattle.js_direct.specs.declared.run.Run.{Run}
use Rattle.js_direct.specs.Comes.{Comes, ComesTo, FineCame, IsEnd, IsReady, Reaches, ended_as, target_as}
use Rattle.js_direct.proofs.Reducing.{starts}
use Rattle.js_direct.proofs.Parts.{gives, part_passes, part_then, part_waits}

-- how an end that is no value ends a target
other_target : (how : Ended) (of : Reference) (v : Value) → (how ≡ ended.Is → ⊥) → target_as how of v ≡ ended_as how v
other_target ended.Is of v h = absurd (h refl)
other_target ended.Left of v h = refl
other_target ended.Normal of v h = refl
other_target ended.Return of v h = refl
other_target ended.Break of v h = refl
other_target ended.Continue of v h = refl
other_target ended.Threw of v h = refl

pub other_end : (how : Ended) → (how ≡ ended.Left → ⊥) → IsEnd how
other_end ended.Left h = h refl
other_end ended.Is h = tt
other_end ended.Normal h = tt
other_end ended.Return h = tt
other_end ended.Break h = tt
other_end ended.Continue h = tt
other_end ended.Threw h = tt

pub other_abrupt : (w : ℕ) (cells : List PlainCell) (how : Ended) (v : Value) → (how ≡ ended.Is → ⊥) → IsAbrupt (completion_of w cells (ended_as how v))
other_abrupt w cells ended.Is v h = h refl
other_abrupt w cells ended.Left v h = tt
other_abrupt w cells ended.Normal v h = tt
other_abrupt w cells ended.Return v h = tt
other_abrupt w cells ended.Break v h = tt
other_abrupt w cells ended.Continue v h = tt
other_abrupt w cells ended.Threw v h = tt

-- two clauses of one call
pub both_ok : {T E : Type 0} (r : Result T E) (P Q : T → Type 0) → IfOk r P → IfOk r Q → IfOk r (λ k. P k × Q k)
both_ok (Ok v) P Q h k = (h, k)
both_ok (Err e) P Q h k = tt

module _ (fs : List Forest) (w : ℕ) where
  -- ## After a part that gave a value or a reference

  pub value_ready : (s t : Cells) (n : ℕ) (p : State → Plan) (had has : Run) (how : Ended) (o : Completion) → ComesTo fs w s t n p had has how o → how ≡ ended.Is → Kept fs w s t → IsReady fs w s had → IsReady fs w t has
  value_ready s t n p had has how o one is kept ready = (ready.0, kept.confined ready.1, (subst (λ (h : Ended). FineCame fs w t.cells h o has) is one.fine).1)

  pub value_fine : (s t : Cells) (n : ℕ) (p : State → Plan) (had has : Run) (how : Ended) (v : Value) → Comes fs w s t n p had has how v → how ≡ ended.Is → IsFine w t.cells v
  value_fine s t n p had has how v one is = (subst (λ (h : Ended). FineCame fs w t.cells h (ended_as h v) has) is one.fine).0

  pub target_fine : (s t : Cells) (n : ℕ) (p : State → Plan) (had has : Run) (how : Ended) (of : Reference) (v : Value) → Reaches fs w s t n p had has how of v → how ≡ ended.Is → FineReference w t.cells of
  target_fine s t n p had has how of v one is = (subst (λ (h : Ended). FineCame fs w t.cells h (target_as h of v) has) is one.fine).0

  -- ## The frame goes on

  pub value_then : (s0 s1 s2 : Cells) (n0 n1 n : ℕ) (p : State → Plan) (f : FormFrame) (had mid has : Run) (how next : Ended) (v : Value) (a : Completion)
      → Comes fs w s0 s1 n0 p had mid how v → how ≡ ended.Is → Kept fs w s0 s1 → FineForm fs w s0.cells f
      → ComesTo fs w s1 s2 n1 (form_taken fs w s1.cells f (meaning.Is (seen w s1.cells v))) mid has next a → n1 ≤ n
      → ComesTo fs w s0 s2 n (λ s. and_then (p s) (form_taken fs w s0.cells f)) had has next a
  value_then s0 s1 s2 n0 n1 n p f had mid has how next v a one is kept fine two le =
      part_then fs w s0 s1 s2 n0 n1 n p (frame.Form f) had mid has ended.Is next (completion.Is v) a
      (subst (λ (h : Ended). ComesTo fs w s0 s1 n0 p had mid h (ended_as h v)) is one) tt kept.grows fine two le

  pub target_then : (s0 s1 s2 : Cells) (n0 n1 n : ℕ) (p : State → Plan) (f : FormFrame) (had mid has : Run) (how next : Ended) (of : Reference) (v : Value) (a : Completion)
      → Reaches fs w s0 s1 n0 p had mid how of v → how ≡ ended.Is → Kept fs w s0 s1 → FineForm fs w s0.cells f
      → ComesTo fs w s1 s2 n1 (form_taken fs w s1.cells f (meaning.Refers (reference_of w s1.cells of))) mid has next a → n1 ≤ n
      → ComesTo fs w s0 s2 n (λ s. and_then (p s) (form_taken fs w s0.cells f)) had has next a
  target_then s0 s1 s2 n0 n1 n p f had mid has how next of v a one is kept fine two le =
      part_then fs w s0 s1 s2 n0 n1 n p (frame.Form f) had mid has ended.Is next (completion.Refers of) a
      (subst (λ (h : Ended). ComesTo fs w s0 s1 n0 p had mid h (target_as h of v)) is one) tt kept.grows fine two le

  -- ## The frame waits, by the clauses of `wait`

  pub frame_waits : {E : Type 0} (result : Result Ended E) (s0 s1 : Cells) (n0 n : ℕ) (p : State → Plan) (f : Frame) (had mid has : Run) (how : Ended) (o : Completion) (a : Ended → Completion)
      → ComesTo fs w s0 s1 n0 p had mid how o → how ≡ ended.Left → Kept fs w s0 s1 → FineFrame fs w s0.cells f → n0 + frame_free f ≤ n
      → IfOk result (λ h. h ≡ ended.Left) → IfOk result (λ h. has.waits.items ≡ mid.waits.items ++ f ∷ []) → IfOk result (λ h. has.next ≡ mid.next) → IfOk result (λ h. has.units ≡ mid.units)
      → IfOk result (λ h. ComesTo fs w s0 s1 n (λ s. and_then (p s) (taken fs w s0.cells f)) had has h (a h))
  frame_waits (Ok h) s0 s1 n0 n p f had mid has how o a one is kept fine le left waits next units =
      part_waits fs w s0 s1 n0 n p f had mid has how h o (a h) one is kept.grows fine units next waits left le
  frame_waits (Err e) s0 s1 n0 n p f had mid has how o a one is kept fine le left waits next units = tt

  -- ## Another end passes the frame

  pub value_passes : (s0 s1 : Cells) (n0 n : ℕ) (p : State → Plan) (f : FormFrame) (had has : Run) (how : Ended) (v : Value)
      → Comes fs w s0 s1 n0 p had has how v → (how ≡ ended.Is → ⊥) → (how ≡ ended.Left → ⊥) → Kept fs w s0 s1 → FineForm fs w s0.cells f → n0 ≤ n
      → Comes fs w s0 s1 n (λ s. and_then (p s) (form_taken fs w s0.cells f)) had has how v
  value_passes s0 s1 n0 n p f had has how v one no_value no_left kept fine le =
      part_passes fs w s0 s1 n0 n p (frame.Form f) had has how (ended_as how v) one (other_end how no_left) kept.grows fine
      (λ t. sym ((passed fs w s1.cells f).1 (completion_of w s1.cells (ended_as how v)) t (other_abrupt w s1.cells how v no_value))) le

  -- an end that is no value is one of a target
  pub ends_target : (s0 s1 : Cells) (n : ℕ) (p : State → Plan) (had has : Run) (how : Ended) (of : Reference) (v : Value)
      → Comes fs w s0 s1 n p had has how v → (how ≡ ended.Is → ⊥) → Reaches fs w s0 s1 n p had has how of v
  ends_target s0 s1 n p had has how of v one no_value = subst (λ (o : Completion). ComesTo fs w s0 s1 n p had has how o) (sym (other_target how of v no_value)) one

  -- and the other way round
  pub target_ends : (s0 s1 : Cells) (n : ℕ) (p : State → Plan) (had has : Run) (how : Ended) (of : Reference) (v : Value)
      → Reaches fs w s0 s1 n p had has how of v → (how ≡ ended.Is → ⊥) → Comes fs w s0 s1 n p had has how v
  target_ends s0 s1 n p had has how of v one no_value = subst (λ (o : Completion). ComesTo fs w s0 s1 n p had has how o) (other_target how of v no_value) one

  -- ## The same, said otherwise

  pub instead : (s0 s1 : Cells) (n0 n : ℕ) (p q : State → Plan) (had has : Run) (how : Ended) (o : Completion)
      → ComesTo fs w s0 s1 n0 p had has how o → ((r : Rest) → q (image fs r w s0) ≡ p (image fs r w s0)) → n0 ≤ n → ComesTo fs w s0 s1 n q had has how o
  instead s0 s1 n0 n p q had has how o one e le = record {
    units = one.units;
    reduces = λ r. starts (had.units - has.units) _ _ _ (e r) (one.reduces r);
    fine = one.fine;
    near = omega (arith, one.near, le);
  }

  -- ## At once

  pub gives_value : (s t : Cells) (n : ℕ) (p : State → Plan) (had : Run) (v : Value) → had.waits.items ≡ []
      → ((r : Rest) → p (image fs r w s) ≡ Ret (meaning.Is (seen w t.cells v)) (image fs r w t)) → IsFine w t.cells v → 1 ≤ n → Comes fs w s t n p had had ended.Is v
  gives_value s t n p had v none plan fine le = gives fs w s t n p had had ended.Is (completion.Is v) tt refl none plan fine le

  -- a reference at its place
  pub gives_at : (s : Cells) (n : ℕ) (p : State → Plan) (had : Run) (of at : Reference) (v : Value) → at ≡ of → had.waits.items ≡ []
      → ((r : Rest) → p (image fs r w s) ≡ Ret (meaning.Refers (reference_of w s.cells of)) (image fs r w s)) → FineReference w s.cells of → 1 ≤ n → Reaches fs w s s n p had had ended.Is at v
  gives_at s n p had of at v same none plan fine le = subst (λ (x : Reference). Reaches fs w s s n p had had ended.Is x v) (sym same) (gives fs w s s n p had had ended.Is (completion.Refers of) tt refl none plan fine le)

  pub reaches_at : (s : Cells) (n : ℕ) (p : State → Plan) (had : Run) (how : Ended) (of at : Reference) (v : Value) → how ≡ ended.Is → at ≡ of → had.waits.items ≡ []
      → ((r : Rest) → p (image fs r w s) ≡ Ret (meaning.Refers (reference_of w s.cells of)) (image fs r w s)) → FineReference w s.cells of → 1 ≤ n → Reaches fs w s s n p had had how at v
  reaches_at s n p had how of at v is same none plan fine le = subst (λ (h : Ended). Reaches fs w s s n p had had h at v) (sym is) (gives_at s n p had of at v same none plan fine le)

  -- a change of the store first
  pub after_store : (s t u : Cells) (n : ℕ) (p q : State → Plan) (had has : Run) (how : Ended) (o : Completion)
      → ComesTo fs w t u n p had has how o → ((r : Rest) → q (image fs r w s) ≡ p (image fs r w t)) → ComesTo fs w s u n q had has how o
  after_store s t u n p q had has how o one e = record {
    units = one.units;
    reduces = λ r. starts (had.units - has.units) _ _ _ (e r) (one.reduces r);
    fine = one.fine;
    near = one.near;
  }

  -- an expression stays at its place
  pub expr_stays : (old new : List PlainCell) → Grows w old new → (e : ExprId) (p : Place) → IsExprAt fs w old e p → IsExprAt fs w new e p
  expr_stays old new g e p h = (place_fine fs w old new g p h.0, h.1)

-- what is suspended is no value
pub not_value : (how : Ended) → how ≡ ended.Left → how ≡ ended.Is → ⊥
not_value how l e = apart (sym l ∙ e)
  where
    apart : ended.Left ≡ ended.Is → ⊥
    apart x = cc
