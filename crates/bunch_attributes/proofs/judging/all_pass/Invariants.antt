use Rattle.std.proofs.Common.{◌≡◌, map, take, true}
use Rattle.std.specs.List.{list_all}
use Rattle.widget_meaning.specs.OwnState.{State}
use Rattle.page_image.specs.Image.{forest, number}
use Rattle.bunch_attributes.specs.Tests.{passes}
use Rattle.bunch_attributes.proofs.judging.all_pass.Given as goal

-- those before pass
abbrev pub invariant-each : goal.invariant-each
invariant-each l = (s : State) → s.own.forest ≡ forest l.page l.w.index → list_all (passes l.test s) (map (number l.page l.w.index) (take l.node-index l.list)) ≡ true
