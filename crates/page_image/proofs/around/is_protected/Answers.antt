use Rattle.std.proofs.Common.{sym, ap, ◌∙◌}
use Rattle.widget_meaning.specs.OwnState.{Kept}
use Rattle.page_image.proofs.States.{kept_read}
use Rattle.page_image.proofs.around.is_protected.Goals as goal

pub returns : goal.returns
returns c = λ g s shows. c.is_protected.ensures ∙ sym (ap (λ (k : Kept). k.is_protected) (kept_read c.args.page.now c.args.widget g c.args.around.now s shows c.args.node c.requires))
