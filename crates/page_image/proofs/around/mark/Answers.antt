use Rattle.std.proofs.Common.{sym, ap, ◌∙◌, [], unwrap_or}
use Rattle.widget_meaning.specs.OwnState.{Kept}
use Rattle.page_image.proofs.States.{kept_read}
use Rattle.page_image.proofs.around.mark.Goals as goal

pub returns : goal.returns
returns c = λ g s shows. ap (λ t. unwrap_or t []) c.mark.ensures ∙ sym (ap (λ (k : Kept). k.mark) (kept_read c.args.page.now c.args.widget g c.args.around.now s shows c.args.node c.requires))
