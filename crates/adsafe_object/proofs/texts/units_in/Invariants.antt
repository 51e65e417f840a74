use Rattle.std.proofs.Common.{◌≡◌, ◌≤◌, length, sum_by, take}
use Rattle.widget_meaning.specs.Limits.{max_units}
use Rattle.adsafe_object.proofs.texts.units_in.Given as goal

abbrev pub invariant-loop-text : goal.invariant-loop-text
invariant-loop-text l = (l.sum ≡ sum_by length (take l.text-index l.texts)) × (l.sum ≤ max_units)
