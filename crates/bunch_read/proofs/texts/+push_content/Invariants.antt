use Rattle.std.proofs.Common.{◌≡◌, ◌++◌, take}
use Rattle.plain_tree.specs.Trees.{height}
use Rattle.bunch_read.proofs.Content.{own_tree, texts}
use Rattle.bunch_read.proofs.texts.+push_content.Given as goal

-- what was appended of the children
abbrev pub invariant-each : goal.invariant-each
invariant-each l = l.units.items ≡ l.initial.units.items ++ texts l.page l.w (take l.child-index l.child-items)

abbrev pub decreases-push_content : goal.decreases-push_content
decreases-push_content l = height (own_tree l.page.now l.w l.node)
