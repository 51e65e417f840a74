use Rattle.std.proofs.Common.{◌≡◌, drop}
use Rattle.plain_tree.specs.Plains.{placed_all}
use Rattle.markup_rules.specs.Elements.{items}
use Rattle.markup_rules.specs.Rows.{misrooted}
use Rattle.markup_rules.proofs.Rooted.{misrooted_from}
use Rattle.markup_rules.proofs.items.misrooted.Given as goal

abbrev pub invariant-nodes : goal.invariant-nodes
invariant-nodes l = misrooted (items (placed_all l.content)) ≡ misrooted_from l.rooted (items (placed_all (drop l.plain-index l.content)))
