use Rattle.std.specs.Prelude.{option_copied}
use Rattle.event_loop.specs.Kept as loop
use Rattle.page_image.specs.Around.{hushed}
use Rattle.page_image.proofs.States.{changed_shows, hushed_of}
use Rattle.page_image.proofs.around.hush.Goals as goal

pub returns : goal.returns
returns c = λ g s shows. changed_shows c.args.page.now c.args.widget g c.args.around.now c.hush.new.self s c.args.node (loop.without_handlers (option_copied c.args.kind)) (hushed (option_copied c.args.kind)) c.requires (hushed_of g (option_copied c.args.kind)) c.hush.ensures.others shows c.hush.ensures.done
