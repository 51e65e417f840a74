use Rattle.std.proofs.Common.{ap, ◌∙◌, map}
use Rattle.native_image.proofs.Lists.{take_whole}
use Rattle.bunch_attributes.proofs.Pairs.{swapped}
use Rattle.bunch_attributes.proofs.styles.replaced.Goals as goal

pub returns : goal.returns
returns c = c.each.invariant ∙ ap (map (swapped c.args.name.now c.args.value.now)) (take_whole c.args.pairs.now c.each.pair-index c.each-test.false)
