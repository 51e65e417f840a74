use Rattle.std.proofs.Common.{◌≡◌, ◌+◌, drop}
use Rattle.plain_tree.specs.Trees.{size}
use Rattle.plain_tree.specs.Plains.{placed_all}
use Rattle.markup_rules.proofs.root.+room_after.Given as goal

-- what is left, and what is still to come
abbrev pub invariant-each : goal.invariant-each
invariant-each l = l.left + size (placed_all l.child-items) + 1 ≡ l.room + size (placed_all (drop l.child-index l.child-items))
