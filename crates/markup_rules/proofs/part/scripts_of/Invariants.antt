use Rattle.std.proofs.Common.{◌≡◌, ◌++◌, drop, map}
use Rattle.std.specs.Prelude.{filter}
use Rattle.plain_tree.specs.Plains.{placed_all}
use Rattle.markup_rules.specs.Elements.{tops, is_script_element}
use Rattle.markup_rules.specs.Parts.{element_of}
use Rattle.markup_rules.proofs.part.scripts_of.Given as goal

abbrev pub invariant-each : goal.invariant-each
invariant-each l = map element_of l.found.items ++ filter is_script_element (tops (placed_all (drop l.plain-index l.children))) ≡ filter is_script_element (tops (placed_all l.children))
