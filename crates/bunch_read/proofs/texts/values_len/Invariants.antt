use Rattle.std.proofs.Common.{◌≡◌, map, take}
use Rattle.widget_meaning.specs.OwnState.{State}
use Rattle.native_common.specs.Numbers.{counted}
use Rattle.page_image.specs.Image.{forest, number}
use Rattle.bunch_read.specs.Values.{all_units}
use Rattle.bunch_read.proofs.texts.values_len.Given as goal

-- the units so far
abbrev pub invariant-each : goal.invariant-each
invariant-each l = (s : State) → s.own.forest ≡ forest l.page l.w → l.len ≡ counted (all_units s (map (number l.page l.w) (take l.node-index l.list)))
