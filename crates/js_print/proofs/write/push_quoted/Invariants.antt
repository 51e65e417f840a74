use Rattle.std.proofs.Common.{drop, ◌++◌, ◌∷◌, []}
use Rattle.js_pieces.specs.Spelling.{string_bytes, quoted_units}
use Rattle.js_print.proofs.Fronts.{Goes}
use Rattle.js_print.proofs.write.push_quoted.Given as goal

abbrev pub invariant-units : goal.invariant-units
invariant-units l = Goes l.fn.out.items l.out.items (string_bytes l.unit-items) (quoted_units l.before (drop l.unit-index l.unit-items) ++ 34 ∷ [])
