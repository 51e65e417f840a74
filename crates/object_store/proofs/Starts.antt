-- Where a read begins.
use Rattle.std.proofs.Common.{◌≡◌, ℕ, ◌<◌, List, length, sym, ap, ◌∙◌, Option, Some, None, arith, true, false, if◌then◌else◌, slice_get}
use Rattle.std.specs.Prelude.{IfSome}
use Rattle.std.specs.Option.{option_and_then}
use Rattle.store_cells.specs.Cells.{Cells, PlainCell, is_bunch, is_scope, is_scope_at}
use Rattle.store_cells.specs.Numbered.{NumberedCell, cells_of, plain}
use Rattle.store_cells.specs.declared.counts.Counts.{Counts}
use Rattle.store_cells.specs.Shape.{IsShape}
use Rattle.object_store.specs.Calls.{read_start}
use Rattle.store_cells.proofs.Lists.{get_within}
use Rattle.object_store.proofs.Puts.{seen}
use Rattle.object_store.proofs.Links.{linked}

module _ (s : Cells) (names : List (List ℕ)) (cs : List NumberedCell) {raws : List (ℕ × ℕ)} (kept : List Counts) (view : (let c : Cells = record { cells = cells_of names cs; kept = kept } in c ≡ s)) (shape : IsShape names cs raws kept) (i : ℕ) (c : NumberedCell) (at : slice_get cs i ≡ Some c) where
  start : read_start s.cells i ≡ (if is_bunch c.head.form then c.head.up else Some i)
  start = ap (λ (o : Option PlainCell). option_and_then (λ d. if is_bunch d.form then d.up else Some i) o) (seen s names cs kept view shape i c at)

  pub bunch_start : is_bunch c.head.form ≡ true → c.head.up ≡ read_start s.cells i
  bunch_start e = sym (start ∙ ap (λ b. if b then c.head.up else Some i) e)

  pub other_start : is_bunch c.head.form ≡ false → Some i ≡ read_start s.cells i
  other_start e = sym (start ∙ ap (λ b. if b then c.head.up else Some i) e)

  here : slice_get (cells_of names cs) i ≡ Some (plain names c)
  here = ap (λ (t : Cells). slice_get t.cells i) view ∙ seen s names cs kept view shape i c at

  pub up_within : IfSome c.head.up (λ j. j < length s.cells)
  up_within = by c.head.up (linked names cs shape.base i (plain names c) here).up
    where
      size : length (cells_of names cs) ≡ length s.cells
      size = ap (λ (t : Cells). length t.cells) view

      by : (o : Option ℕ) → IfSome o (λ j. (j < i) × (is_scope_at (cells_of names cs) j ≡ is_scope c.head.form)) → IfSome o (λ j. j < length s.cells)
      by None h = tt
      by (Some j) h = omega (arith, h.0, get_within (cells_of names cs) i (plain names c) here, size)
