-- What the charging calls answer.
use Rattle.std.proofs.Common.{◌≡◌, ℕ, List, sym, ap, ◌∙◌, subst, Option, Some, None, refl}
use Rattle.std.specs.Prelude.{Result, Ok, Err, OnOk, OnErr, IfErr}
use Rattle.store_cells.specs.declared.counts.Counts.{Counts}
use Rattle.store_cells.specs.declared.counts.StoreFault.{StoreFault}
use Rattle.store_cells.specs.Lists.{changed}
use Rattle.store_cells.specs.Cells.{Cells}
use Rattle.store_cells.specs.Numbered.{NumberedCell, cells_of}
use Rattle.store_cells.specs.Shape.{AreWithin, IsShape}
use Rattle.store_cells.specs.Costs.{paid}
use Rattle.object_store.specs.Calls.{IsCharged, unit_cost}
use Rattle.object_store.proofs.Puts.{shape_paid}

module _ (s : Cells) (names : List (List ℕ)) (cs : List NumberedCell) {raws : List (ℕ × ℕ)} (kept : List Counts) (view : (let c : Cells = record { cells = cells_of names cs; kept = kept } in c ≡ s)) (shape : IsShape names cs raws kept) (counts : List Counts) (v w n u : ℕ) (is : v ≡ w) (F : List Counts → ℕ → Option StoreFault) where
  kept_is : kept ≡ s.kept
  kept_is = ap (λ (t : Cells). t.kept) view

  moved : F kept v ≡ F s.kept w
  moved = λ j. F (kept_is j) (is j)

  pub charged_shape : (r : Result (Unit {0}) StoreFault) → OnOk r (counts ≡ changed kept v (paid 0 n u)) → OnErr r (counts ≡ kept) → AreWithin counts → IsShape names cs raws counts
  charged_shape (Ok x) e g within = shape_paid names names cs cs raws kept counts shape shape.base shape.closed refl within v n u e
  charged_shape (Err x) e g within = subst (λ (ks : List Counts). IsShape names cs raws ks) (sym g) shape

  pub charged_ok : (r : Result (Unit {0}) StoreFault) → OnOk r (F kept v ≡ None) → OnOk r (counts ≡ changed kept v (paid 0 n u)) → OnOk r (let d : Cells = record { cells = cells_of names cs; kept = counts } in IsCharged s d w n u (F s.kept w))
  charged_ok (Ok x) e g = record {
    allowed = sym moved ∙ e;
    done = (λ j. record { cells = cells_of names cs; kept = (g ∙ ap (λ k. changed kept k (paid 0 n u)) is) j }) ∙ ap (λ (t : Cells). unit_cost t w n u) view;
  }
  charged_ok (Err x) e g = tt

  pub asked_ok : (r : Result (Unit {0}) StoreFault) → OnOk r (F kept v ≡ None) → OnOk r (F s.kept w ≡ None)
  asked_ok (Ok x) e = sym moved ∙ e
  asked_ok (Err x) e = tt

  pub charged_err : (r : Result (Unit {0}) StoreFault) → IfErr r (λ e. F kept v ≡ Some e) → IfErr r (λ e. F s.kept w ≡ Some e)
  charged_err (Ok x) e = tt
  charged_err (Err x) e = sym moved ∙ e

  pub charged_same : (r : Result (Unit {0}) StoreFault) → OnErr r (counts ≡ kept) → OnErr r (let d : Cells = record { cells = cells_of names cs; kept = counts } in d ≡ s)
  charged_same (Ok x) e = tt
  charged_same (Err x) e = (λ j. record { cells = cells_of names cs; kept = e j }) ∙ view
