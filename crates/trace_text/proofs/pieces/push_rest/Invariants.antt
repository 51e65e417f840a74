use Rattle.std.proofs.Common.{◌≡◌, ◌++◌, take}
use Rattle.std.specs.List.{flat_map}
use Rattle.trace_text.specs.Report.{next_quoted}
use Rattle.trace_text.proofs.pieces.push_rest.Given as goal

abbrev pub invariant-texts : goal.invariant-texts
invariant-texts l = l.out.items ≡ l.fn.out.items ++ flat_map next_quoted (take l.text-index l.texts)
