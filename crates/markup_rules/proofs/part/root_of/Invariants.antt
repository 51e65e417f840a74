use Rattle.std.proofs.Common.{◌≡◌, drop}
use Rattle.plain_tree.specs.Plains.{placed_all}
use Rattle.markup_rules.specs.Elements.{roots}
use Rattle.markup_rules.proofs.part.root_of.Given as goal

abbrev pub invariant-nodes : goal.invariant-nodes
invariant-nodes l = roots (placed_all l.content) ≡ roots (placed_all (drop l.plain-index l.content))
