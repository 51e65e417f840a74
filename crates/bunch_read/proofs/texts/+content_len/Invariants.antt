use Rattle.std.proofs.Common.{◌≡◌, ◌+◌, length, take}
use Rattle.plain_tree.specs.Trees.{height}
use Rattle.native_common.specs.Numbers.{counted}
use Rattle.bunch_read.proofs.Content.{own_tree, texts}
use Rattle.bunch_read.proofs.texts.+content_len.Given as goal

-- what was counted of the children
abbrev pub invariant-each : goal.invariant-each
invariant-each l = l.len ≡ counted (l.initial.len + length (texts l.page l.w (take l.child-index l.child-items)))

abbrev pub decreases-content_len : goal.decreases-content_len
decreases-content_len l = height (own_tree l.page.now l.w l.node)
