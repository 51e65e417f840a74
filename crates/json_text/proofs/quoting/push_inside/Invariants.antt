use Rattle.std.proofs.Common.{◌≡◌, ◌++◌, ◌-◌, length, drop}
use Rattle.json_text.specs.Names.{inside}
use Rattle.json_text.proofs.quoting.push_inside.Given as goal

-- what is written and what is left
abbrev pub invariant-units : goal.invariant-units
invariant-units l = l.out.items ++ inside (drop l.at l.units) ≡ l.initial.out.items ++ inside l.units

abbrev pub decreases-units : goal.decreases-units
decreases-units l = length l.units - l.at
