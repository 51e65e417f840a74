use Rattle.page_output.proofs.PlainTrees.{PrintsChildren}
use Rattle.page_output.proofs.markup.+push_plain.Given as goal

-- what is printed of the children
abbrev pub invariant-each : goal.invariant-each
invariant-each l = PrintsChildren l.child-items l.child-index l.initial.out.items l.out.items
