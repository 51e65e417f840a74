use Rattle.std.proofs.Common.{◌≡◌, drop}
use Rattle.widget_meaning.specs.Styles.{style_value}
use Rattle.bunch_read.proofs.styles.value_in.Given as goal

-- what was passed over has another name
abbrev pub invariant-each : goal.invariant-each
invariant-each l = style_value l.pairs l.name ≡ style_value (drop l.pair-index l.pairs) l.name
