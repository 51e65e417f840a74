use Rattle.std.proofs.Common.{◌≡◌, ◌++◌, drop, map}
use Rattle.std.specs.Prelude.{filter_map}
use Rattle.widget_form.specs.Forms.{source}
use Rattle.markup_rules.specs.Parts.{element_of}
use Rattle.widget_form.proofs.file.libs_of.Given as goal

abbrev pub invariant-scripts : goal.invariant-scripts
invariant-scripts l = l.libs.items ++ filter_map source (map element_of (drop l.script-index l.scripts)) ≡ filter_map source (map element_of l.scripts)
