use Rattle.std.proofs.Common.{◌≡◌, ◌++◌}
use Rattle.code_units.specs.Utf8.{units_of_chars}
use Rattle.markup_steps.proofs.script.push_text.Given as goal

abbrev pub invariant-loop-c : goal.invariant-loop-c
invariant-loop-c l = l.units.items ≡ l.initial.units.items ++ units_of_chars l.yielded
