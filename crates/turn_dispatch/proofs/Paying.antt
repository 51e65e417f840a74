-- The cost of an event object.
use Rattle.std.proofs.Common.{◌≡◌, ℕ, ◌+◌, ◌<◌, ◌≤◌, List, ap, ◌∙◌, Some, true, false, arith, if◌then◌else◌, slice_get}
use Rattle.std.specs.Prelude.{◌-◌, nat_lt}
use Rattle.std.proofs.lemmas.Bool.Decides.{nat_tests}
use Rattle.js_tree.specs.Forest.{Forest}
use Rattle.store_cells.specs.declared.counts.Counts.{Counts}
use Rattle.store_cells.specs.declared.counts.TheConstants.{CELL_LIMIT, SLOT_LIMIT, UNIT_LIMIT}
use Rattle.store_cells.specs.Cells.{Cells}
use Rattle.object_store.specs.Owned.{owned}
use Rattle.widget_meaning.specs.Limits.{max_cells, max_nodes, max_slots, max_units}
use Rattle.widget_meaning.specs.Values as meaning
use Rattle.widget_meaning.specs.OwnState.{Amounts, State}
use Rattle.widget_meaning.specs.Plan.{Plan, Halt}
use Rattle.widget_meaning.specs.Costs.{pay, sum, with_counts}
use Rattle.widget_meaning.specs.Dispatch.{event_cost}
use Rattle.js_image.specs.Image.{Rest, image, meant_counts}

module _ (fs : List Forest) (r : Rest) (w : ℕ) (s : Cells) (k : Counts) (at : slice_get s.kept w ≡ Some k) (go : State → Plan) where
  abbrev st : State
  st = image fs r w s

  abbrev total : Amounts
  total = sum st.own.counts event_cost

  abbrev paid : Plan
  paid = go (with_counts st total)

  counted : st.own.counts ≡ meant_counts r.state.own.counts.nodes (Some k)
  unfolding owned
  counted = ap (meant_counts r.state.own.counts.nodes) at

  units_are : total.units ≡ k.units + 0
  units_are = ap (λ (b : Amounts). b.units + 0) counted

  cells_are : total.cells ≡ k.cells + 3
  cells_are = ap (λ (b : Amounts). b.cells + 3) counted

  slots_are : total.slots ≡ k.slots + 9
  slots_are = ap (λ (b : Amounts). b.slots + 9) counted

  few_nodes : nat_lt max_nodes total.nodes ≡ false
  few_nodes = ap (λ (b : Amounts). nat_lt max_nodes (b.nodes + 0)) counted ∙ ap (nat_lt max_nodes) (none r.state.own.counts.nodes) ∙ r.few
    where
      none : (n : ℕ) → n + 0 ≡ n
      none n = omega arith

  over : (top n m : ℕ) → n ≤ top → top - n < m → nat_lt top (n + m) ≡ true
  over top n m le lt = grind (arith, nat_tests, le, lt)

  fits : (top n m : ℕ) → n ≤ top → m ≤ top - n → nat_lt top (n + m) ≡ false
  fits top n m le h = grind (arith, nat_tests, le, h)

  module _ (units : k.units ≤ UNIT_LIMIT) where
    units_fit : nat_lt max_units total.units ≡ false
    units_fit = ap (nat_lt max_units) units_are ∙ fits max_units k.units 0 units (omega arith)

    pub cells_stop : k.cells ≤ CELL_LIMIT → CELL_LIMIT - k.cells < 3 → pay event_cost st go ≡ Halt meaning.Cells st
    cells_stop le lt =
        let h : nat_lt max_cells total.cells ≡ true = ap (nat_lt max_cells) cells_are ∙ over max_cells k.cells 3 le lt in
        λ j. if units_fit j then Halt meaning.Units st else if h j then Halt meaning.Cells st else if nat_lt max_slots total.slots then Halt meaning.Slots st else if nat_lt max_nodes total.nodes then Halt meaning.Nodes st else paid

    module _ (cells : k.cells ≤ CELL_LIMIT) (fit : 3 ≤ CELL_LIMIT - k.cells) where
      cells_fit : nat_lt max_cells total.cells ≡ false
      cells_fit = ap (nat_lt max_cells) cells_are ∙ fits max_cells k.cells 3 cells fit

      pub slots_stop : k.slots ≤ SLOT_LIMIT → SLOT_LIMIT - k.slots < 9 → pay event_cost st go ≡ Halt meaning.Slots st
      slots_stop le lt =
          let h : nat_lt max_slots total.slots ≡ true = ap (nat_lt max_slots) slots_are ∙ over max_slots k.slots 9 le lt in
          λ j. if units_fit j then Halt meaning.Units st else if cells_fit j then Halt meaning.Cells st else if h j then Halt meaning.Slots st else if nat_lt max_nodes total.nodes then Halt meaning.Nodes st else paid

      pub all_fit : k.slots ≤ SLOT_LIMIT → 9 ≤ SLOT_LIMIT - k.slots → pay event_cost st go ≡ paid
      all_fit le h =
          let f : nat_lt max_slots total.slots ≡ false = ap (nat_lt max_slots) slots_are ∙ fits max_slots k.slots 9 le h in
          λ j. if units_fit j then Halt meaning.Units st else if cells_fit j then Halt meaning.Cells st else if f j then Halt meaning.Slots st else if few_nodes j then Halt meaning.Nodes st else paid
