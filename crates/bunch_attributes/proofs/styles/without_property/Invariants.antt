use Rattle.std.proofs.Common.{◌≡◌, take}
use Rattle.widget_meaning.specs.Styles as means
use Rattle.bunch_attributes.proofs.styles.without_property.Given as goal

-- those before that are left
abbrev pub invariant-each : goal.invariant-each
invariant-each l = l.left.items ≡ means.without_property (take l.pair-index l.pairs) l.name
