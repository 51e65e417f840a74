-- Laws of plans: one after the other, and what a charge of fuel and a cost do.
use Rattle.std.specs.Prelude.{◌≡◌, ◌<◌, ◌≤◌, ℕ, ◌+◌}
use Rattle.widget_meaning.specs.Limits.{max_units, max_cells, max_slots, max_nodes}
use Rattle.widget_meaning.specs.Values.{Completion, Units, Cells, Slots, Nodes}
use Rattle.widget_meaning.specs.OwnState.{Amounts, State}
use Rattle.widget_meaning.specs.Plan.{Plan, Ret, Halt, Out, OutOfFuel, and_then, charge}
use Rattle.widget_meaning.specs.Costs.{pay, sum, with_counts}
use Rattle.widget_meaning.specs.Meaning.{run_plan}
use Rattle.widget_meaning.specs.Compositional.{then_do}
use Rattle.widget_meaning.specs.Keeps.{FitsLimits}

-- a plan that is out of fuel
abbrev pub out_of_fuel : State → ℕ → Out
out_of_fuel s g = record { how = OutOfFuel; state = s; left = g }

-- plans one after the other, and a charge: one that is there is spent, and one that is not stops and is not spent
pub record PlanLaws : Type 0 where
  pub ends : (p : Plan) → and_then p Ret ≡ p
  pub groups : (p : Plan) (j k : Completion → State → Plan)
      → and_then (and_then p j) k ≡ and_then p (λ o s. and_then (j o s) k)
  pub runs : (g : ℕ) (p : Plan) (k : Completion → State → Plan) → run_plan g (and_then p k) ≡ then_do (run_plan g p) k
  pub charge_first : (c : ℕ) (s : State) (p : Plan) (k : Completion → State → Plan)
      → and_then (charge c s p) k ≡ charge c s (and_then p k)
  pub charged : (c g : ℕ) (s : State) (p : Plan) → run_plan (c + g) (charge c s p) ≡ run_plan g p
  pub lacking : (c g : ℕ) (s : State) (p : Plan) → g < c → run_plan g (charge c s p) ≡ out_of_fuel s g

-- a cost that fits is counted, and then comes the rest; else the first of the four that passes its limit stops
pub record CostLaws (a : Amounts) (s : State) (k : State → Plan) : Type 0 where
  pub fits : FitsLimits (sum s.own.counts a) → pay a s k ≡ k (with_counts s (sum s.own.counts a))
  pub units : max_units < s.own.counts.units + a.units → pay a s k ≡ Halt Units s
  pub cells : s.own.counts.units + a.units ≤ max_units → max_cells < s.own.counts.cells + a.cells
      → pay a s k ≡ Halt Cells s
  pub slots : s.own.counts.units + a.units ≤ max_units → s.own.counts.cells + a.cells ≤ max_cells
      → max_slots < s.own.counts.slots + a.slots → pay a s k ≡ Halt Slots s
  pub nodes : s.own.counts.units + a.units ≤ max_units → s.own.counts.cells + a.cells ≤ max_cells
      → s.own.counts.slots + a.slots ≤ max_slots → max_nodes < s.own.counts.nodes + a.nodes → pay a s k ≡ Halt Nodes s
