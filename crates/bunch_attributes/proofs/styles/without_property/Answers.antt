use Rattle.std.proofs.Common.{ap, ◌∙◌}
use Rattle.widget_meaning.specs.Styles as means
use Rattle.native_image.proofs.Lists.{take_whole}
use Rattle.bunch_attributes.proofs.styles.without_property.Goals as goal

pub returns : goal.returns
returns c = c.each.invariant ∙ ap (λ qs. means.without_property qs c.args.name.now) (take_whole c.args.pairs.now c.each.pair-index c.each-test.false)
