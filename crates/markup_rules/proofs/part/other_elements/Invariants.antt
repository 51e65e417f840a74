use Rattle.std.proofs.Common.{◌≡◌, ◌++◌, drop, map}
use Rattle.plain_tree.specs.Plains.{placed_all}
use Rattle.markup_rules.specs.Elements.{others}
use Rattle.markup_rules.specs.Parts.{element_of}
use Rattle.markup_rules.proofs.Rooted.{others_from}
use Rattle.markup_rules.proofs.part.other_elements.Given as goal

abbrev pub invariant-each : goal.invariant-each
invariant-each l = map element_of l.found.items ++ others_from l.rooted (placed_all (drop l.plain-index l.content)) ≡ others (placed_all l.content)
