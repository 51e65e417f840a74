use Rattle.std.proofs.Common.{map}
use Rattle.js_names.specs.Code.{tree_in}
use Rattle.page_load.specs.Starts.{AreStarts}
use Rattle.page_load.proofs.codes.starts_of.Given as goal

abbrev pub invariant-slots : goal.invariant-slots
invariant-slots l = AreStarts (map tree_in l.libs) l.yielded l.starts.items
