use Rattle.page_nodes.proofs.Plains.{unplaced_element, unplaced_text}
use Rattle.page_build.proofs.rooting.one_tree.Goals as goal

pub returns-in-Text : goal.returns-in-Text
returns-in-Text c = (_, _, unplaced_text c.args.plain.now _ _ c.in-Text.is)

pub returns-in-Element : goal.returns-in-Element
returns-in-Element c = (_, _, unplaced_element c.args.plain.now _ _ _ _ c.in-Element.is)
