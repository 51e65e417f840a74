use Rattle.std.proofs.Common.{◌≡◌, drop}
use Rattle.style_text.specs.Styles.{begins_in_any_case}
use Rattle.style_text.proofs.value.begins_in_any_case.Given as goal

abbrev pub invariant-loop-i : goal.invariant-loop-i
invariant-loop-i l = begins_in_any_case l.word l.units ≡ begins_in_any_case (drop l.i l.word) (drop l.i l.units)
