use Rattle.std.proofs.Common.{◌≡◌, ◌++◌, drop}
use Rattle.std.specs.List.{flat_map}
use Rattle.plain_tree.specs.Print.{escape}
use Rattle.page_output.proofs.escape.push_text.Given as goal

abbrev pub invariant-each : goal.invariant-each
invariant-each l = l.units.items ++ flat_map escape (drop l.unit-index l.unit-items) ≡ flat_map escape l.text
