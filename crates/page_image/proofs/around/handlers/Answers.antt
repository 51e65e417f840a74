use Rattle.std.proofs.Common.{sym, ap, ◌∙◌, map}
use Rattle.widget_meaning.specs.OwnState.{Kept}
use Rattle.page_image.specs.Around.{handler_of}
use Rattle.page_image.proofs.States.{kept_read}
use Rattle.page_image.proofs.around.handlers.Goals as goal

pub returns : goal.returns
returns c = λ g s shows. ap (map (handler_of g)) c.handlers.ensures ∙ sym (ap (λ (k : Kept). k.handlers) (kept_read c.args.page.now c.args.widget g c.args.around.now s shows c.args.node c.requires))
