use Rattle.std.proofs.Common.{◌≡◌, ◌+◌, drop}
use Rattle.plain_tree.specs.Trees.{size}
use Rattle.plain_tree.specs.Plains.{placed_all}
use Rattle.markup_rules.specs.Elements.{before_scripts}
use Rattle.markup_rules.proofs.root.is_crowded.Given as goal

-- what is left, and what is still to come
abbrev pub invariant-nodes : goal.invariant-nodes
invariant-nodes l = l.left + size (before_scripts (placed_all l.children)) ≡ 16383 + size (before_scripts (placed_all (drop l.plain-index l.children)))
