-- Parts of a list, one after the other.
use Rattle.std.proofs.Common.{◌≡◌, ℕ, ◌+◌, ◌-◌, ◌≤◌, List, sym, ◌∙◌, subst, arith}
use Rattle.js_tree.specs.Forest.{Forest}
use Rattle.store_cells.specs.declared.value.Value.{Value}
use Rattle.store_cells.specs.Cells.{Cells}
use Rattle.object_store.specs.Grows.{Grows}
use Rattle.widget_meaning.specs.Values as meaning
use Rattle.widget_meaning.specs.OwnState.{State}
use Rattle.widget_meaning.specs.Plan.{Plan, and_then}
use Rattle.js_image.specs.Image.{Rest, image, seen}
use Rattle.js_flow.specs.declared.frame.Frame.{Frame}
use Rattle.js_flow.specs.declared.job.Completion.{Completion}
use Rattle.js_flow.specs.Frames.{taken}
use Rattle.js_flow.specs.Fine.{FineFrame}
use Rattle.js_flow.proofs.Stays.{frame_same}
use Rattle.js_direct.specs.declared.run.Ended.{Ended}
use Rattle.js_direct.specs.declared.run.Ended.TheVariants as ended
use Rattle.js_direct.specs.declared.run.Run.{Run}
use Rattle.js_direct.specs.Comes.{Comes, ComesTo}
use Rattle.js_direct.specs.Goes.{GoesOn}
use Rattle.js_direct.proofs.Reducing.{after_each, counts, ends, starts, under}

no_both : ended.Left ≡ ended.Is → ⊥
no_both e = cc

-- what is suspended is no value
pub left_no_value : (h : Ended) → h ≡ ended.Left → h ≡ ended.Is → ⊥
left_no_value h e f = no_both (sym e ∙ f)

module _ (fs : List Forest) (w : ℕ) where
  -- what costs nothing was done first
  pub before_then : (s t u : Cells) (n m : ℕ) (p q : State → Plan) (had has : Run) (how : Ended) (o : Completion) → ((r : Rest) → p (image fs r w s) ≡ q (image fs r w t))
      → ComesTo fs w t u n q had has how o → n ≤ m → ComesTo fs w s u m p had has how o
  before_then s t u n m p q had has how o plan comes le = record {
    units = comes.units;
    reduces = λ r. starts (had.units - has.units) _ _ _ (plan r) (comes.reduces r);
    fine = comes.fine;
    near = omega (arith, comes.near, le);
  }

  pub goes_both : (s t u : Cells) (p q x : State → Plan) (had mid has : Run) → GoesOn fs w s t p q had mid → GoesOn fs w t u q x mid has → GoesOn fs w s u p x had has
  goes_both s t u p q x had mid has one two = record {
    units = omega (arith, one.units, two.units);
    reduces = λ r. counts ((had.units - mid.units) + (mid.units - has.units)) (had.units - has.units) _ _ (omega (arith, one.units, two.units))
        (after_each (had.units - mid.units) (mid.units - has.units) _ _ _ (one.reduces r) (two.reduces r));
    none = two.none;
  }

  pub goes_then : (s t u : Cells) (n : ℕ) (p q : State → Plan) (had mid has : Run) (how : Ended) (o : Completion) → GoesOn fs w s t p q had mid → ComesTo fs w t u n q mid has how o → ComesTo fs w s u n p had has how o
  goes_then s t u n p q had mid has how o one two = record {
    units = omega (arith, one.units, two.units);
    reduces = λ r. counts ((had.units - mid.units) + (mid.units - has.units)) (had.units - has.units) _ _ (omega (arith, one.units, two.units))
        (after_each (had.units - mid.units) (mid.units - has.units) _ _ _ (one.reduces r) (two.reduces r));
    fine = two.fine;
    near = omega (arith, one.units, two.near);
  }

  -- a part has a value, and its frame does what costs nothing
  pub part_goes : (s0 s1 s2 : Cells) (p q u : State → Plan) (f : Frame) (had mid has : Run) (how : Ended) (v : Value) → Comes fs w s0 s1 0 p had mid how v → how ≡ ended.Is → Grows w s0.cells s1.cells → FineFrame fs w s0.cells f
      → has ≡ mid → ((r : Rest) → u (image fs r w s0) ≡ and_then (p (image fs r w s0)) (taken fs w s0.cells f)) → ((r : Rest) → taken fs w s1.cells f (meaning.Is (seen w s1.cells v)) (image fs r w s1) ≡ q (image fs r w s2))
      → GoesOn fs w s0 s2 u q had has
  part_goes s0 s1 s2 p q u f had mid has how v part is g fine same first last =
      let one : Comes fs w s0 s1 0 p had mid ended.Is v = subst (λ (h : Ended). Comes fs w s0 s1 0 p had mid h v) is part in
      subst (λ (x : Run). GoesOn fs w s0 s2 u q had x) (sym same) record {
        units = one.units;
        reduces = λ r. starts (had.units - mid.units) _ _ _ (first r) (ends (had.units - mid.units) _ _ _
            (under (had.units - mid.units) (p (image fs r w s0)) _ (taken fs w s0.cells f) (one.reduces r))
            ((λ i. sym (frame_same fs w s0.cells s1.cells g f fine) i (meaning.Is (seen w s1.cells v)) (image fs r w s1)) ∙ last r));
        none = one.fine.1;
      }
