-- The one cost of `splice`, at the image of a widget.
use Rattle.std.proofs.Common.{◌≡◌, ℕ, ◌+◌, ◌<◌, ◌≤◌, List, length, sym, ap, ◌∙◌, Some, arith, false, slice_get}
use Rattle.std.specs.Prelude.{nat_lt}
use Rattle.std.proofs.lemmas.List.{length-map}
use Rattle.js_tree.specs.Forest.{Forest}
use Rattle.store_cells.specs.declared.value.Value.{Value as StoreValue}
use Rattle.store_cells.specs.declared.counts.Counts.{Counts}
use Rattle.store_cells.specs.declared.counts.TheConstants.{CELL_LIMIT, SLOT_LIMIT, UNIT_LIMIT}
use Rattle.store_cells.specs.Cells.{Cells}
use Rattle.widget_meaning.specs.Limits.{max_cells, max_slots, max_units, max_nodes}
use Rattle.widget_meaning.specs.Values.{Value}
use Rattle.widget_meaning.specs.OwnState.{Amounts, State, cell_at}
use Rattle.widget_meaning.specs.Costs.{pay, slots_cost}
use Rattle.widget_meaning.specs.ListChanges.{new_indexes}
use Rattle.js_image.specs.declared.outcome.StopCause.TheVariants as cause
use Rattle.js_image.specs.Image.{Rest, all_seen, image, seen}
use Rattle.js_values.specs.declared.outcome.NativeOut.TheVariants as native
use Rattle.native_common.specs.Refines.{Ends}
use Rattle.native_common.proofs.Loops.{over_no, over_yes}
use Rattle.list_methods.specs.declared.array.OwnArray.{OwnArray}
use Rattle.list_methods.specs.Arrays.{IsArray, number}
use Rattle.list_methods.specs.Parts.{exchanged, filled_after}
use Rattle.list_methods.proofs.Cells.{array_there}
use Rattle.list_methods.proofs.Costs.{cells_stop, counts_are, in_turn, slots_stop}
use Rattle.list_methods.proofs.Meeting.{kept_here, stop_ends}

module _ (w : ℕ) (old : Cells) (a : OwnArray) (k : Counts) (at : slice_get old.kept w ≡ Some k) (units : k.units ≤ UNIT_LIMIT) (taken left : List StoreValue) where
  abbrev n : ℕ
  n = number w old a

  abbrev ts : List Value
  ts = all_seen w old.cells taken

  abbrev ls : List Value
  ls = all_seen w old.cells left

  module _ (fs : List Forest) (r : Rest) where
    abbrev s : State
    s = image fs r w old

    units_in : nat_lt max_units s.own.counts.units ≡ false
    units_in = ap (λ (x : Amounts). nat_lt max_units x.units) (counts_are fs r w old k at) ∙ over_no max_units k.units units

    cells_are : s.own.counts.cells ≡ k.cells
    cells_are = ap (λ (x : Amounts). x.cells) (counts_are fs r w old k at)

    slots_are : s.own.counts.slots ≡ k.slots
    slots_are = ap (λ (x : Amounts). x.slots) (counts_are fs r w old k at)

    nodes_in : nat_lt max_nodes s.own.counts.nodes ≡ false
    nodes_in = ap (λ (x : Amounts). nat_lt max_nodes x.nodes) (counts_are fs r w old k at) ∙ r.few

  pub exchange_cells : CELL_LIMIT ≤ k.cells → Ends w old old (λ d s. exchanged n ts ls s) (native.Stop cause.Cells)
  exchange_cells over = stop_ends w old old (λ d s. exchanged n ts ls s) cause.Cells
      (λ fs r d. cells_stop (image fs r w old) n ts ls (units_in fs r) (ap (λ c. nat_lt max_cells (c + 1)) (cells_are fs r) ∙ over_yes max_cells (k.cells + 1) (omega (arith, over))))
      (λ fs. kept_here fs w old)

  module _ (few : k.cells < CELL_LIMIT) (fresh : ℕ) (is : (fs : List Forest) (r : Rest) → fresh ≡ new_indexes (cell_at (image fs r w old) n) (length left)) where
    fresh_is : (fs : List Forest) (r : Rest) → new_indexes (cell_at (image fs r w old) n) (length ls) ≡ fresh
    fresh_is fs r = ap (new_indexes (cell_at (image fs r w old) n)) (length-map left (seen w old.cells)) ∙ sym (is fs r)

    cells_in : (fs : List Forest) (r : Rest) → nat_lt max_cells ((image fs r w old).own.counts.cells + 1) ≡ false
    cells_in fs r = ap (λ c. nat_lt max_cells (c + 1)) (cells_are fs r) ∙ over_no max_cells (k.cells + 1) (omega (arith, few))

    slots_test : (fs : List Forest) (r : Rest) → nat_lt max_slots ((image fs r w old).own.counts.slots + (length ts + new_indexes (cell_at (image fs r w old) n) (length ls))) ≡ nat_lt max_slots (k.slots + (length taken + fresh))
    slots_test fs r = λ j. nat_lt max_slots (slots_are fs r j + (length-map taken (seen w old.cells) j + fresh_is fs r j))

    pub exchange_slots : SLOT_LIMIT < k.slots + (length taken + fresh) → Ends w old old (λ d s. exchanged n ts ls s) (native.Stop cause.Slots)
    exchange_slots over = stop_ends w old old (λ d s. exchanged n ts ls s) cause.Slots
        (λ fs r d. slots_stop (image fs r w old) n ts ls (units_in fs r) (cells_in fs r) (slots_test fs r ∙ over_yes max_slots (k.slots + (length taken + fresh)) over))
        (λ fs. kept_here fs w old)

    pub exchange_rest : IsArray w old a → k.slots + (length taken + fresh) ≤ SLOT_LIMIT → (fs : List Forest) (r : Rest) → exchanged n ts ls (image fs r w old) ≡ pay (slots_cost fresh) (image fs r w old) (filled_after n ts ls)
    exchange_rest h fits fs r =
        in_turn (image fs r w old) n ts ls (units_in fs r) (cells_in fs r) (slots_test fs r ∙ over_no max_slots (k.slots + (length taken + fresh)) fits) (nodes_in fs r) (array_there (image fs r w old) n a.len (h.len fs r))
        ∙ ap (λ m. pay (slots_cost m) (image fs r w old) (filled_after n ts ls)) (fresh_is fs r)
