use Rattle.std.proofs.Common.{◌≡◌, drop, take}
use Rattle.plain_tree.specs.Trees.{beside}
use Rattle.plain_tree.specs.Plains.{placed_all}
use Rattle.markup_rules.specs.Elements.{before_scripts}
use Rattle.widget_form.proofs.file.script_place.Given as goal

abbrev pub invariant-nodes : goal.invariant-nodes
invariant-nodes l = before_scripts (placed_all l.children) ≡ beside (placed_all (take l.i l.children)) (before_scripts (placed_all (drop l.i l.children)))
