-- What an owner has paid.
use Rattle.std.proofs.Common.{◌≡◌, ℕ, zero, suc, ◌<◌, ◌≤◌, List, [], ◌∷◌, length, get_or, arith, refl, sym, ap, ◌∙◌, subst, Option, Some, slice_get, filter}
use Rattle.std.specs.List.{count_by}
use Rattle.std.specs.Option.{option_map_or}
use Rattle.std.proofs.lemmas.List.Sums.{length-filter}
use Rattle.std.proofs.lemmas.Option.{slice_get-get_or}
use Rattle.store_cells.specs.declared.counts.Counts.{Counts}
use Rattle.store_cells.specs.declared.counts.TheConstants.{CELL_LIMIT, SLOT_LIMIT, UNIT_LIMIT}
use Rattle.store_cells.specs.Cells.{is_visible}
use Rattle.store_cells.specs.Numbered.{NumberedCell, cells_of, heads, own_head, plain}
use Rattle.store_cells.specs.Shape.{AreWithin, IsShape}
use Rattle.store_cells.proofs.Lists.{count_more, none_some, some_same}

-- the visible cells are counted by their fixed parts
counted : (names : List (List ℕ)) (w : ℕ) (cs : List NumberedCell) → count_by (own_head w) (heads cs) ≡ count_by (is_visible w) (cells_of names cs)
counted names w [] = refl
counted names w (c ∷ cs) = count_more (own_head w) (is_visible w) c.head (plain names c) (heads cs) (cells_of names cs) refl (counted names w cs)

-- a widget's counts are within the limits
kept_within : (ks : List Counts) (w : ℕ) (k : Counts) → AreWithin ks → slice_get ks w ≡ Some k → (k.cells ≤ CELL_LIMIT) × (k.slots ≤ SLOT_LIMIT) × (k.units ≤ UNIT_LIMIT)
kept_within [] w k h e = absurd (none_some e)
kept_within (x ∷ ks) zero k h e = subst (λ (y : Counts). (y.cells ≤ CELL_LIMIT) × (y.slots ≤ SLOT_LIMIT) × (y.units ≤ UNIT_LIMIT)) (some_same x k e) h.0
kept_within (x ∷ ks) (suc w) k h e = kept_within ks w k h.1 e

-- the counts of a widget
module _ (names : List (List ℕ)) (cs : List NumberedCell) {raws : List (ℕ × ℕ)} (kept : List Counts) (shape : IsShape names cs raws kept) (w : ℕ) (k : Counts) (lt : w < 32) (is : k ≡ get_or kept w k) where
  at : slice_get kept w ≡ Some k
  at = slice_get-get_or kept w k (omega (arith, shape.counted, lt)) ∙ ap Some (sym is)

  pub counts_exact : k.cells ≡ length (filter (is_visible w) (cells_of names cs))
  counts_exact = sym (ap (λ (o : Option Counts). option_map_or (λ (d : Counts). d.cells) o 0) at) ∙ shape.exact w lt ∙ counted names w cs ∙ sym (length-filter (is_visible w) (cells_of names cs))

  pub counts_within : (k.cells ≤ CELL_LIMIT) × (k.slots ≤ SLOT_LIMIT) × (k.units ≤ UNIT_LIMIT)
  counts_within = kept_within kept w k shape.within at
