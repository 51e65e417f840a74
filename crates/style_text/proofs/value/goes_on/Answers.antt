use Rattle.std.proofs.Common.{◌∙◌}
use Rattle.style_text.proofs.Cuts.{range_more}
use Rattle.style_text.proofs.Values.{extends_value}
use Rattle.style_text.proofs.value.goes_on.Goals as goal

pub returns : goal.returns
returns c = c.extends.ensures ∙ rw (range_more c.args.units.now c.args.start c.args.at c.requires.order c.requires.inside) (extends_value _ _ c.requires.begun)
