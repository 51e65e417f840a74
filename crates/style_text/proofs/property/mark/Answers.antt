use Rattle.std.proofs.Common.{◌∙◌}
use Rattle.style_text.specs.Styles.{properties, is_used}
use Rattle.style_text.specs.Used.{marks_of}
use Rattle.style_text.proofs.Marks.{marks_more}
use Rattle.style_text.proofs.property.mark.Goals as goal

pub returns : goal.returns
unfolding marks_of properties
returns c = λ pairs value h. c.mark_in.ensures (is_used pairs) h ∙ marks_more pairs c.args.units.now value properties
