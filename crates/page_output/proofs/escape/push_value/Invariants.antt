use Rattle.std.proofs.Common.{◌≡◌, ◌++◌, drop}
use Rattle.std.specs.List.{flat_map}
use Rattle.plain_tree.specs.Print.{escape_in_value}
use Rattle.page_output.proofs.escape.push_value.Given as goal

abbrev pub invariant-each : goal.invariant-each
invariant-each l = l.units.items ++ flat_map escape_in_value (drop l.unit-index l.unit-items) ≡ flat_map escape_in_value l.text
