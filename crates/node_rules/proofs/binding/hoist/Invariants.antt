use Rattle.std.proofs.Common.{ℕ, ◌↔◌, ◌⊎◌, List}
use Rattle.js_tree.specs.Trees.{trees}
use Rattle.first_breach.specs.Lists.{In}
use Rattle.node_rules.specs.Hoisting.{AnyDeclares, stmts_load}
use Rattle.node_rules.proofs.Hoisting.{StmtsIn}
use Rattle.node_rules.proofs.binding.hoist.Given as goal

abbrev pub invariant-left : goal.invariant-left
invariant-left l = record {
  inside : StmtsIn (trees l.tree) l.left.items;
  declared : (q : List ℕ) → (In q l.names.items ⊎ AnyDeclares (trees l.tree) l.left.items q) ↔ (In q l.fn.names.items ⊎ AnyDeclares (trees l.tree) l.body q);
}

abbrev pub decreases-left : goal.decreases-left
decreases-left l = stmts_load (trees l.tree) l.left.items
