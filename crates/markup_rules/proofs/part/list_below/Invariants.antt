use Rattle.std.proofs.Common.{◌≡◌, ◌++◌, drop, map}
use Rattle.plain_tree.specs.Plains.{placed_all}
use Rattle.markup_rules.specs.Elements.{elements}
use Rattle.markup_rules.specs.Parts.{element_of}
use Rattle.markup_rules.proofs.part.list_below.Given as goal

abbrev pub invariant-each : goal.invariant-each
invariant-each l = map element_of l.found.items ++ elements (placed_all (drop l.child-index l.child-items)) ≡ (map element_of l.initial.found.items ++ elements (placed_all l.child-items))
