use Rattle.std.proofs.Common.{◌≡◌, ◌++◌, drop, map}
use Rattle.markup_rules.specs.Rows.{ids}
use Rattle.markup_rules.specs.Parts.{element_of}
use Rattle.widget_form.proofs.judge.ids_of.Given as goal

abbrev pub invariant-parts : goal.invariant-parts
invariant-parts l = l.found.items ++ ids (map element_of (drop l.part-index l.parts)) ≡ ids (map element_of l.parts)
