use Rattle.std.proofs.Common.{◌≡◌, length}
use Rattle.js_tree.specs.Trees.{trees}
use Rattle.js_names.specs.Found.{AreFound}
use Rattle.js_names.proofs.code.names_to.Given as goal

abbrev pub invariant-funs : goal.invariant-funs
invariant-funs l = record {
  found : AreFound (trees l.tree) l.funs.items;
  many : length l.funs.items ≡ l.n;
}
