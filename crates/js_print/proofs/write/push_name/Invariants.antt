use Rattle.std.proofs.Common.{drop}
use Rattle.std.specs.List.{flat_map}
use Rattle.js_pieces.specs.Spelling.{name_bytes, unit_bytes}
use Rattle.js_print.proofs.Fronts.{Goes}
use Rattle.js_print.proofs.write.push_name.Given as goal

abbrev pub invariant-units : goal.invariant-units
invariant-units l = Goes l.initial.out.items l.out.items (name_bytes l.unit-items) (flat_map unit_bytes (drop l.unit-index l.unit-items))
