use Rattle.std.proofs.Common.{◌≡◌, ◌++◌, take}
use Rattle.js_names.specs.Hoisting.{clause_bodies}
use Rattle.js_names.proofs.hoisting.add_bodies.Given as goal

abbrev pub invariant-list : goal.invariant-list
invariant-list l = l.blocks.items ≡ l.fn.blocks.items ++ clause_bodies (take l.clause-index l.list)
