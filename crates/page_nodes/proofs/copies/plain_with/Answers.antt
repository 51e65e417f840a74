use Rattle.std.proofs.Common.{ap, sym, ◌∙◌}
use Rattle.plain_tree.specs.Trees.{ElementOf}
use Rattle.page_nodes.specs.Entries.{label_of}
use Rattle.page_nodes.proofs.Plains.{element_taken}
use Rattle.page_nodes.proofs.copies.plain_with.Goals as goal

pub returns-in_ok-attributes_of-in-Element : goal.returns-in_ok-attributes_of-in-Element
returns-in_ok-attributes_of-in-Element c = element_taken c.args.ids _ _ _ _ _ _ (ap label_of c.in-Element.is ∙ ap (λ t. ElementOf t c.in-Element.attributes.items) (sym c.in_ok-share-in-Element.ensures)) c.in_ok-attributes_of-in-Element.ensures
