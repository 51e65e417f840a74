use Rattle.page_image.proofs.States.{due_image, due_shows}
use Rattle.page_image.proofs.around.due.Goals as goal

pub returns-clause-next : goal.returns-clause-next
returns-clause-next c = λ g o shows. due_image c.args.page.now c.args.widget g c.args.around.now o c.args.until c.due.result c.due.ensures.due shows

pub returns-clause-image : goal.returns-clause-image
returns-clause-image c = λ g o shows. due_shows c.args.page.now c.args.widget g c.args.around.now c.due.new.self o c.args.until c.due.result c.due.ensures.due c.due.ensures.left c.due.ensures.clock c.due.ensures.kept c.due.ensures.focus shows
