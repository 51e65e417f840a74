-- Calls with a Bunch each.
use Rattle.std.specs.Prelude.{ℕ, ◌*◌, List, length}
use Rattle.std.specs.List.{fold}
use Rattle.widget_meaning.specs.BunchReads.{bunches_from, with_bunch}
use Rattle.widget_meaning.specs.BunchWrites.{each_called}
use Rattle.widget_meaning.specs.Costs.{cost, pay}
use Rattle.widget_meaning.specs.OwnState.{State}
use Rattle.widget_meaning.specs.Plan.{Plan}
use Rattle.widget_meaning.specs.Values.{Value}

-- what `each` does once its charge is taken
abbrev pub each_paid : List ℕ → Value → Value → ℕ → State → Plan
each_paid ns f b d s =
    pay (cost 0 (length ns) (2 * length ns) 0) s
    (λ t. each_called f (bunches_from (length t.own.heap) ns) b d (fold with_bunch t ns))
