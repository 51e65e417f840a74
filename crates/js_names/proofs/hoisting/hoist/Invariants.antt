use Rattle.std.proofs.Common.{◌≡◌, ◌++◌}
use Rattle.std.specs.Prelude.{reverse}
use Rattle.js_tree.specs.Trees.{trees}
use Rattle.js_names.proofs.Hoisted.{StmtsIn, load, vars_of}
use Rattle.js_names.proofs.hoisting.hoist.Given as goal

abbrev pub invariant-left : goal.invariant-left
invariant-left l = record {
  inside : StmtsIn (trees l.tree) (reverse l.left.items);
  gathered : l.names.items ++ vars_of (trees l.tree) (reverse l.left.items) ≡ l.fn.names.items ++ vars_of (trees l.tree) l.body;
}

abbrev pub decreases-left : goal.decreases-left
decreases-left l = load (trees l.tree) (reverse l.left.items)
