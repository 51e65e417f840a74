use Rattle.std.proofs.Common.{◌+◌, ◌-◌, ◌*◌, length}
use Rattle.text_search.proofs.Building.{IsBuilding}
use Rattle.text_search.proofs.borders.borders.Given as goal

abbrev pub invariant-loop-borders : goal.invariant-loop-borders
invariant-loop-borders l = IsBuilding l.x l.borders.items (length l.borders.items) l.border

abbrev pub decreases-loop-borders : goal.decreases-loop-borders
decreases-loop-borders l = 2 * length l.x + l.border - 2 * length l.borders.items
