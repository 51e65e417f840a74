use Rattle.std.proofs.Common.{◌≡◌, ◌-◌, ◌≤◌, drop, length}
use Rattle.std.specs.List.{fold}
use Rattle.code_units.specs.Feeding.{input}
use Rattle.code_units.proofs.feeding.feed.Given as goal

abbrev pub invariant-words : goal.invariant-words
invariant-words g l = (l.at ≤ length l.units) × (fold g.H.Hasher.write l.state (input (drop l.at l.units)) ≡ fold g.H.Hasher.write l.fn.state (input l.units))

abbrev pub decreases-words : goal.decreases-words
decreases-words g l = length l.units - l.at
