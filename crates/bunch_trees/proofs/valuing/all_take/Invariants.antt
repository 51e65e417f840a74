use Rattle.std.proofs.Common.{◌≡◌, map, take, true}
use Rattle.std.specs.List.{list_all}
use Rattle.widget_meaning.specs.BunchWrites.{is_value_target}
use Rattle.widget_meaning.specs.OwnState.{State}
use Rattle.page_image.specs.Image.{forest, number}
use Rattle.bunch_trees.proofs.valuing.all_take.Given as goal

-- those before take it
abbrev pub invariant-each : goal.invariant-each
invariant-each l = (s : State) → s.own.forest ≡ forest l.page l.w.index → list_all (is_value_target s l.text) (map (number l.page l.w.index) (take l.node-index l.nodes)) ≡ true
