use Rattle.std.proofs.Common.{◌≡◌, drop, map}
use Rattle.std.specs.List.{list_all}
use Rattle.markup_rules.specs.Rows.{is_free}
use Rattle.markup_rules.specs.Parts.{element_of}
use Rattle.widget_form.proofs.host.are_free.Given as goal

abbrev pub invariant-parts : goal.invariant-parts
invariant-parts l = list_all is_free (map element_of l.parts) ≡ list_all is_free (map element_of (drop l.part-index l.parts))
