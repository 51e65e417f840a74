use Rattle.std.proofs.Common.{◌∙◌}
use Rattle.style_text.specs.Styles.{properties, is_listed, is_used}
use Rattle.style_text.specs.Used.{marks_of}
use Rattle.style_text.proofs.Marks.{free_any}
use Rattle.style_text.proofs.property.is_free.Goals as goal

pub returns : goal.returns
unfolding is_listed marks_of properties
returns c = λ pairs h. c.free_in.ensures (is_used pairs) h ∙ free_any c.args.units.now (is_used pairs) properties
