use Rattle.page_image.proofs.States.{focus_shows}
use Rattle.page_image.proofs.around.set_focus.Goals as goal

pub returns : goal.returns
returns c = λ g o shows. focus_shows c.args.page.now c.args.widget g c.args.around.now c.set_focus.new.self o c.args.node c.requires c.set_focus.ensures.done c.set_focus.ensures.kept c.set_focus.ensures.timers c.set_focus.ensures.clock shows
