use Rattle.std.proofs.Common.{◌≡◌, ◌++◌, drop, map}
use Rattle.std.specs.List.{filter}
use Rattle.plain_tree.specs.Plains.{attribute_of}
use Rattle.page_nodes.specs.Copies.{is_taken}
use Rattle.page_nodes.proofs.copies.attributes_of.Given as goal

-- those so far, and those still to come
abbrev pub invariant-each : goal.invariant-each
invariant-each l = map attribute_of l.attrs.items ++ filter (is_taken l.ids) (drop l.attribute-index l.attribute-items) ≡ filter (is_taken l.ids) l.attributes.items
