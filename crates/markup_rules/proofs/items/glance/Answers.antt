use Rattle.std.proofs.Common.{subst}
use Rattle.plain_tree.specs.Trees.{Trees}
use Rattle.plain_tree.specs.Plains.{Places, element_node}
use Rattle.markup_rules.specs.Elements.{items}
use Rattle.markup_rules.specs.Parts.{IsSeen}
use Rattle.markup_rules.proofs.Nodes.{seen_plain}
use Rattle.markup_rules.proofs.items.glance.Goals as goal

pub returns-in-Element : goal.returns-in-Element
returns-in-Element c = seen_plain _ c.args.plain.now _ _ _ _ c.in-Element.is (subst (λ l. (kids : Trees Places) → IsSeen c.element_seen.result (items (element_node c.in-Element.tag l kids c.in-Element.at))) c.deref.ensures.value c.element_seen.ensures)
