use Rattle.std.proofs.Common.{◌≡◌, map, take}
use Rattle.store_cells.specs.declared.value.Value.TheVariants as value
use Rattle.widget_meaning.specs.BunchReads as means
use Rattle.widget_meaning.specs.OwnState.{State}
use Rattle.page_image.specs.Image.{forest, number}
use Rattle.bunch_read.proofs.texts.values_of.Given as goal

-- the values so far
abbrev pub invariant-each : goal.invariant-each
invariant-each l = (s : State) → s.own.forest ≡ forest l.page l.w → l.values.items ≡ map value.Text (map (means.value_of s) (map (number l.page l.w) (take l.node-index l.list)))
