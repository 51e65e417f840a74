use Rattle.std.proofs.Common.{◌≡◌, drop}
use Rattle.plain_tree.specs.Trees.{value_of}
use Rattle.page_nodes.proofs.content.value_of.Given as goal

-- what is still to come decides
abbrev pub invariant-each : goal.invariant-each
invariant-each l = value_of l.name (drop l.attribute-index l.attribute-items) ≡ value_of l.name l.attributes.items
