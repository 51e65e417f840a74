use Rattle.std.proofs.Common.{◌≡◌, ◌+◌, length}
use Rattle.json.specs.Json.{Items}
use Rattle.json.specs.Find.{InItems}
use Rattle.json_lengths.specs.Lengths.{items_length}
use Rattle.json_lengths.proofs.counting.count.Given as goal

abbrev pub invariant-items : goal.invariant-items
invariant-items l = (js : Items) → InItems l.initial.items js → (rest : Items) × InItems l.items rest × (l.length + items_length rest ≡ items_length js)

abbrev pub decreases-items : goal.decreases-items
decreases-items l = length l.items
