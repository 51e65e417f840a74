-- What was done, told by a plan that goes on in every way.
use Rattle.std.proofs.Common.{◌≡◌, ℕ, Bool, true, false, sym, length, if◌then◌else◌}
use Rattle.std.specs.Prelude.{nat_lt}
use Rattle.widget_meaning.specs.Limits.{max_cells, max_nodes, max_slots, max_units}
use Rattle.widget_meaning.specs.Values as meaning
use Rattle.widget_meaning.specs.Values.{Own, Undefined, Value}
use Rattle.widget_meaning.specs.OwnState.{Amounts, Cell, State, with_new_cell}
use Rattle.widget_meaning.specs.Plan.{Halt, Plan}
use Rattle.widget_meaning.specs.Costs.{give, make, object_cost, pay, sum, with_counts}

halts : (c : meaning.StopCause) (s t : State) (v : Value) → Halt c s ≡ give v t → ⊥
halts c s t v e = cc

value_same : (u v : Value) (s t : State) → give u s ≡ give v t → u ≡ v
value_same u v s t e = cc

state_same : (u v : Value) (s t : State) → give u s ≡ give v t → s ≡ t
state_same u v s t e = cc

module _ (s y t : State) (u v : Value) where
  within_told : (a b c d : Bool) → (if a then Halt meaning.Units s else if b then Halt meaning.Cells s else if c then Halt meaning.Slots s else if d then Halt meaning.Nodes s else give u y) ≡ give v t → (u ≡ v) × (y ≡ t)
  within_told true b c d e = absurd (halts meaning.Units s t v e)
  within_told false true c d e = absurd (halts meaning.Cells s t v e)
  within_told false false true d e = absurd (halts meaning.Slots s t v e)
  within_told false false false true e = absurd (halts meaning.Nodes s t v e)
  within_told false false false false e = (value_same u v y t e, state_same u v y t e)

abbrev over : Amounts → (Bool × Bool × Bool × Bool)
over a = (nat_lt max_units a.units, nat_lt max_cells a.cells, nat_lt max_slots a.slots, nat_lt max_nodes a.nodes)

-- what was paid is counted
pub paid_told : (a : Amounts) (s t : State) → ((k : State → Plan) → pay a s k ≡ k t) → t ≡ with_counts s (sum s.own.counts a)
paid_told a s t h =
    let b = over (sum s.own.counts a) in
    sym (within_told s (with_counts s (sum s.own.counts a)) t Undefined Undefined b.0 b.1 b.2 b.3 (h (give Undefined))).1

-- a new object is the last
pub made_told : (c : Cell) (n : ℕ) (s t : State) (v : Value) → ((k : Value → State → Plan) → make c n s k ≡ k v t) → (v ≡ Own (length s.own.heap)) × (t ≡ with_new_cell (with_counts s (sum s.own.counts (object_cost n))) c)
made_told c n s t v h =
    let b = over (sum s.own.counts (object_cost n)) in
    let e = within_told s (with_new_cell (with_counts s (sum s.own.counts (object_cost n))) c) t (Own (length s.own.heap)) v b.0 b.1 b.2 b.3 (h give) in
    (sym e.0, sym e.1)
