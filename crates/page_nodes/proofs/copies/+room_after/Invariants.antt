use Rattle.std.proofs.Common.{◌≡◌, ◌+◌, drop}
use Rattle.plain_tree.specs.Trees.{size}
use Rattle.plain_tree.specs.Plains.{unplaced_all}
use Rattle.page_nodes.proofs.copies.+room_after.Given as goal

-- what is left, and what is still to come
abbrev pub invariant-each : goal.invariant-each
invariant-each l = l.left + size (unplaced_all l.child-items) + 1 ≡ l.room + size (unplaced_all (drop l.child-index l.child-items))
