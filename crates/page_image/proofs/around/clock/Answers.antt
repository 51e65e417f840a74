use Rattle.std.proofs.Common.{sym, ◌∙◌}
use Rattle.page_image.proofs.around.clock.Goals as goal

pub returns : goal.returns
returns c = λ g o shows. c.clock.ensures ∙ sym shows.time
