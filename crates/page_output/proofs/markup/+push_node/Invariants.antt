use Rattle.plain_tree.specs.Trees.{height}
use Rattle.page_tree.specs.Entries.{tree}
use Rattle.page_tree.specs.Pages.{nodes}
use Rattle.page_output.proofs.Nodes.{PrintsNodes}
use Rattle.page_output.proofs.markup.+push_node.Given as goal

-- what is printed of the children
abbrev pub invariant-each : goal.invariant-each
invariant-each l = PrintsNodes (nodes l.page) l.child-items l.child-index l.initial.out.items l.out.items

abbrev pub decreases-push_node : goal.decreases-push_node
decreases-push_node l = height (tree (nodes l.page.now) l.node)
