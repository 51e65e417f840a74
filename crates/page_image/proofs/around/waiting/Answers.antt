use Rattle.std.proofs.Common.{sym, ◌∙◌}
use Rattle.page_image.proofs.States.{waiting_image}
use Rattle.page_image.proofs.around.waiting.Goals as goal

pub returns : goal.returns
returns c = λ g o shows. c.waiting.ensures.exact ∙ sym (waiting_image c.args.page.now c.args.widget g c.args.around.now o shows)
