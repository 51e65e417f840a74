-- Costs over all that a widget may have.
use Rattle.std.proofs.Common.{◌≡◌, ℕ, ◌+◌, ◌<◌, ap, arith, if◌then◌else◌}
use Rattle.std.specs.Prelude.{nat_lt}
use Rattle.widget_meaning.specs.Limits.{max_cells, max_nodes, max_slots, max_units}
use Rattle.widget_meaning.specs.Values as meaning
use Rattle.widget_meaning.specs.OwnState.{State}
use Rattle.widget_meaning.specs.Plan.{Halt, Plan}
use Rattle.widget_meaning.specs.Costs.{pay, sum, units_cost, with_counts}
use Rattle.native_common.specs.Numbers.{counted}
use Rattle.native_common.proofs.Loops.{over_yes}

pub too_many : (n c : ℕ) → c ≡ counted n → 4294967295 < c → (s : State) (k : State → Plan) → pay (units_cost n) s k ≡ Halt meaning.Units s
too_many n c e lt s k =
    ap
    (λ b. if b then Halt meaning.Units s
    else if nat_lt max_cells (s.own.counts.cells + 0) then Halt meaning.Cells s
    else if nat_lt max_slots (s.own.counts.slots + 0) then Halt meaning.Slots s
    else if nat_lt max_nodes (s.own.counts.nodes + 0) then Halt meaning.Nodes s
    else k (with_counts s (sum s.own.counts (units_cost n))))
    (over_yes max_units (s.own.counts.units + n) (omega (arith, e, lt)))
