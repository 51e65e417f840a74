use Rattle.std.proofs.Common.{◌∙◌}
use Rattle.js_values.proofs.Identity.{same_is}
use Rattle.js_values.proofs.comparing.is_same.Goals as goal

pub returns : goal.returns
returns c = λ w cells f g. c.is_equal.ensures ∙ same_is w cells c.args.a.now c.args.b.now f g
