use Rattle.page_image.proofs.Changing.{new_shows}
use Rattle.page_image.proofs.around.new.Goals as goal

pub returns : goal.returns
returns c = new_shows c.args.page.now c.args.widget c.new.result c.new.ensures.kept c.new.ensures.timers c.new.ensures.clock c.new.ensures.focus
