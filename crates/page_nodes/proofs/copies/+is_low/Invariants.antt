use Rattle.std.proofs.Common.{◌≤◌, ◌+◌, drop, max}
use Rattle.plain_tree.specs.Trees.{height}
use Rattle.plain_tree.specs.Plains.{unplaced_all}
use Rattle.page_nodes.proofs.copies.+is_low.Given as goal

-- only what is still to come may be too high
abbrev pub invariant-each : goal.invariant-each
invariant-each l = height (unplaced_all l.child-items) + 1 ≤ max l.most (height (unplaced_all (drop l.child-index l.child-items)) + 1)
