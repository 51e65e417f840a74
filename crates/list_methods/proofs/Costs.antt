-- What is paid leaves the objects as they are, and a cost that is paid in two parts.
use Rattle.std.proofs.Common.{◌≡◌, ℕ, zero, suc, ◌+◌, ◌<◌, List, [], ◌∷◌, ◌++◌, length, refl, sym, ap, ◌∙◌, Some, arith, Bool, true, false, if◌then◌else◌, slice_get}
use Rattle.std.specs.Prelude.{nat_lt, slice_index_or}
use Rattle.std.proofs.lemmas.Bool.Decides.{nat_tests}
use Rattle.js_tree.specs.Forest.{Forest}
use Rattle.store_cells.specs.declared.counts.Counts.{Counts}
use Rattle.store_cells.specs.Cells.{Cells}
use Rattle.object_store.specs.Owned.{owned}
use Rattle.widget_meaning.specs.Limits.{max_cells, max_slots, max_units, max_nodes}
use Rattle.widget_meaning.specs.Values as meaning
use Rattle.widget_meaning.specs.Values.{Value, Own, Normal}
use Rattle.widget_meaning.specs.OwnState.{Amounts, Cell, State, cell_at, new_array, plain_object, with_cell, with_new_cell}
use Rattle.widget_meaning.specs.Plan.{Do, Halt, Need, Plan, Ret, Tick}
use Rattle.widget_meaning.specs.Costs.{cost, give, pay, slots_cost, sum, with_counts, within}
use Rattle.widget_meaning.specs.NativeForms.{numbered_pairs}
use Rattle.widget_meaning.specs.ListChanges.{new_indexes, with_elements}
use Rattle.js_image.specs.Image.{Rest, image, meant_counts}
use Rattle.list_methods.specs.Parts.{exchanged, filled_after}

-- the state in which a plan ends, or begins with what is left of it
abbrev pub state_in : Plan → State
state_in (Ret o s) = s
state_in (Halt c s) = s
state_in (Need c s p) = s
state_in (Tick s p) = s
state_in (Do j s k) = s

-- states that go on alike are one
pub same_state : (s t : State) → Ret Normal s ≡ Ret Normal t → s ≡ t
same_state s t h = ap state_in h

within_heap : (a : Amounts) (s t : State) → t.own.heap ≡ s.own.heap → (state_in (within a s (Ret Normal t))).own.heap ≡ s.own.heap
within_heap a s t h = by (nat_lt max_units a.units) (nat_lt max_cells a.cells) (nat_lt max_slots a.slots) (nat_lt max_nodes a.nodes)
  where
    by : (b c d e : Bool) → (state_in (if b then Halt meaning.Units s else if c then Halt meaning.Cells s else if d then Halt meaning.Slots s else if e then Halt meaning.Nodes s else Ret Normal t)).own.heap ≡ s.own.heap
    by true c d e = refl
    by false true d e = refl
    by false false true e = refl
    by false false false true = refl
    by false false false false = h

-- after a cost that was paid the objects are the same
pub paid_heap : (a : Amounts) (s t : State) → ((k : State → Plan) → pay a s k ≡ k t) → t.own.heap ≡ s.own.heap
paid_heap a s t h = sym (ap (λ p. (state_in p).own.heap) (h (Ret Normal))) ∙ within_heap (sum s.own.counts a) s (with_counts s (sum s.own.counts a)) refl

-- what goes on after a cost goes on in one state
pub paid_state : (a : Amounts) (s t u : State) → within a s (Ret Normal t) ≡ Ret Normal u → u ≡ t
paid_state a s t u h = by (nat_lt max_units a.units) (nat_lt max_cells a.cells) (nat_lt max_slots a.slots) (nat_lt max_nodes a.nodes) h
  where
    by : (b c d e : Bool) → (if b then Halt meaning.Units s else if c then Halt meaning.Cells s else if d then Halt meaning.Slots s else if e then Halt meaning.Nodes s else Ret Normal t) ≡ Ret Normal u → u ≡ t
    by true c d e h = cc
    by false true d e h = cc
    by false false true e h = cc
    by false false false true h = cc
    by false false false false h = sym (same_state t u h)

-- the object with a number is the same after one more
pub older : (cs : List Cell) (n : ℕ) (c d : Cell) → n < length cs → slice_index_or (cs ++ c ∷ []) n d ≡ slice_index_or cs n d
older [] n c d h = absurd (omega (arith, h))
older (x ∷ cs) zero c d h = refl
older (x ∷ cs) (suc n) c d h = older cs n c d (omega (arith, h))

-- the counts of an image
pub counts_are : (fs : List Forest) (r : Rest) (w : ℕ) (s : Cells) (k : Counts) → slice_get s.kept w ≡ Some k → (image fs r w s).own.counts ≡ meant_counts r.state.own.counts.nodes (Some k)
unfolding owned
counts_are fs r w s k at = ap (meant_counts r.state.own.counts.nodes) at

-- the cost of `splice`
module _ (s : State) (n : ℕ) (taken left : List Value) where
  abbrev a : Amounts
  a = s.own.counts

  abbrev fresh : ℕ
  fresh = new_indexes (cell_at s n) (length left)

  abbrev array : Cell
  array = new_array (length taken) (numbered_pairs 0 taken)

  abbrev whole : Amounts
  whole = sum a (cost 0 1 (length taken + fresh) 0)

  abbrev ending : State → Plan
  ending t = give (Own (length t.own.heap)) (with_cell (with_new_cell t array) n (with_elements (cell_at t n) left))

  module _ (units : nat_lt max_units a.units ≡ false) where
    moved : (x : ℕ) → x ≡ x + 0
    moved x = omega arith

    units_in : nat_lt max_units (a.units + 0) ≡ false
    units_in = ap (nat_lt max_units) (sym (moved a.units)) ∙ units

    pub cells_stop : nat_lt max_cells (a.cells + 1) ≡ true → exchanged n taken left s ≡ Halt meaning.Cells s
    cells_stop cells = λ j. if units_in j then Halt meaning.Units s else if cells j then Halt meaning.Cells s else if nat_lt max_slots whole.slots then Halt meaning.Slots s else if nat_lt max_nodes whole.nodes then Halt meaning.Nodes s else ending (with_counts s whole)

    module _ (cells : nat_lt max_cells (a.cells + 1) ≡ false) where
      pub slots_stop : nat_lt max_slots (a.slots + (length taken + fresh)) ≡ true → exchanged n taken left s ≡ Halt meaning.Slots s
      slots_stop slots = λ j. if units_in j then Halt meaning.Units s else if cells j then Halt meaning.Cells s else if slots j then Halt meaning.Slots s else if nat_lt max_nodes whole.nodes then Halt meaning.Nodes s else ending (with_counts s whole)

      module _ (slots : nat_lt max_slots (a.slots + (length taken + fresh)) ≡ false) (nodes : nat_lt max_nodes a.nodes ≡ false) (here : n < length s.own.heap) where
        nodes_in : nat_lt max_nodes (a.nodes + 0) ≡ false
        nodes_in = ap (nat_lt max_nodes) (sym (moved a.nodes)) ∙ nodes

        at_once : exchanged n taken left s ≡ ending (with_counts s whole)
        at_once = λ j. if units_in j then Halt meaning.Units s else if cells j then Halt meaning.Cells s else if slots j then Halt meaning.Slots s else if nodes_in j then Halt meaning.Nodes s else ending (with_counts s whole)

        abbrev first : Amounts
        first = sum a (slots_cost fresh)

        abbrev t : State
        t = with_counts s first

        abbrev second : Amounts
        second = sum first (cost 0 1 (length taken) 0)

        abbrev ending_after : State → Plan
        ending_after u = give (Own (length u.own.heap)) (with_cell (with_new_cell u array) n (with_elements (cell_at (with_new_cell u array) n) left))

        same_sum : second ≡ whole
        same_sum =
            let u : (a.units + 0) + 0 ≡ a.units + 0 = omega arith in
            let c : (a.cells + 0) + 1 ≡ a.cells + 1 = omega arith in
            let l : (a.slots + fresh) + length taken ≡ a.slots + (length taken + fresh) = omega arith in
            let d : (a.nodes + 0) + 0 ≡ a.nodes + 0 = omega arith in
            λ j. cost (u j) (c j) (l j) (d j)

        few_cells : nat_lt max_cells (a.cells + 0) ≡ false
        few_cells = grind (arith, nat_tests, cells)

        few_slots : nat_lt max_slots (a.slots + fresh) ≡ false
        few_slots = grind (arith, nat_tests, slots)

        second_part : filled_after n taken left t ≡ ending (with_counts s whole)
        second_part =
            (λ j. within (same_sum j) t (ending_after (with_counts t (same_sum j))))
            ∙ (λ j. if units_in j then Halt meaning.Units t else if cells j then Halt meaning.Cells t else if slots j then Halt meaning.Slots t else if nodes_in j then Halt meaning.Nodes t else ending_after (with_counts t whole))
            ∙ ap (λ c. give (Own (length s.own.heap)) (with_cell (with_new_cell (with_counts s whole) array) n (with_elements c left))) (older s.own.heap n array (plain_object []) here)

        pub in_turn : exchanged n taken left s ≡ pay (slots_cost fresh) s (filled_after n taken left)
        in_turn =
            at_once
            ∙ sym ((λ j. if units_in j then Halt meaning.Units s else if few_cells j then Halt meaning.Cells s else if few_slots j then Halt meaning.Slots s else if nodes_in j then Halt meaning.Nodes s else filled_after n taken left t) ∙ second_part)
