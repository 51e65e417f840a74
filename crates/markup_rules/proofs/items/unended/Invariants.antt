use Rattle.std.proofs.Common.{◌≡◌, drop}
use Rattle.std.specs.Prelude.{fold, Some}
use Rattle.plain_tree.specs.Plains.{placed_all}
use Rattle.markup_rules.specs.Elements.{items}
use Rattle.markup_rules.specs.Rows.{ending}
use Rattle.markup_rules.proofs.items.unended.Given as goal

abbrev pub invariant-nodes : goal.invariant-nodes
invariant-nodes l = fold ending (Some l.at) (items (placed_all l.children)) ≡ fold ending l.place (items (placed_all (drop l.plain-index l.children)))
