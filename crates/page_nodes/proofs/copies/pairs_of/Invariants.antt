use Rattle.std.proofs.Common.{◌≡◌, ◌++◌, drop, map}
use Rattle.plain_tree.specs.Plains.{attribute_of}
use Rattle.page_nodes.proofs.copies.pairs_of.Given as goal

-- those so far, and those still to come
abbrev pub invariant-each : goal.invariant-each
invariant-each l = l.attributes.items ++ map attribute_of (drop l.attr-index l.attr-items) ≡ map attribute_of l.attrs.items
