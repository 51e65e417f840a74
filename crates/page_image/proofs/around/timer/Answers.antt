use Rattle.std.proofs.Common.{ap, ◌∙◌}
use Rattle.std.specs.Option.{option_map}
use Rattle.page_image.specs.Around.{timer_of}
use Rattle.page_image.proofs.States.{timer_image}
use Rattle.page_image.proofs.around.timer.Goals as goal

pub returns : goal.returns
returns c = λ g o shows. ap (option_map (timer_of g)) c.timer.ensures ∙ timer_image c.args.page.now c.args.widget g c.args.around.now o shows c.args.at
