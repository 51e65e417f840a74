use Rattle.widget_meaning.specs.BunchWrites.{with_handler}
use Rattle.widget_meaning.specs.Values.{Own}
use Rattle.event_loop.specs.Kept as loop
use Rattle.page_image.proofs.Events.{with_handler_of}
use Rattle.widget_meaning.specs.BunchWrites.{change_kept}
use Rattle.page_image.specs.Image.{number}
use Rattle.page_image.proofs.Results.{ok_then, err_then}
use Rattle.event_loop.specs.Around.{SameKept, ChangedAt}
use Rattle.page_image.specs.Around.{Shows}
use Rattle.page_image.proofs.States.{changed_shows, same_shows}
use Rattle.page_image.proofs.around.listen.Goals as goal

pub returns-clause-image : goal.returns-clause-image
returns-clause-image c =
    let p = c.args.page.now in
    let w = c.args.widget in
    let old = c.args.around.now in
    let new = c.listen.new.self in
    λ g s shows. ok_then c.listen.result (ChangedAt old new c.args.node (loop.with_handler c.args.handler.0 c.args.handler.1)) (Shows p w g new (change_kept (with_handler c.args.handler.0 (Own (g c.args.handler.1))) s (number p w c.args.node)).own)
    (changed_shows p w g old new s c.args.node (loop.with_handler c.args.handler.0 c.args.handler.1) (with_handler c.args.handler.0 (Own (g c.args.handler.1))) c.requires (λ k. with_handler_of g k c.args.handler.0 c.args.handler.1) c.listen.ensures.others shows) c.listen.ensures.done

pub returns-clause-same : goal.returns-clause-same
returns-clause-same c =
    let p = c.args.page.now in
    let w = c.args.widget in
    let old = c.args.around.now in
    let new = c.listen.new.self in
    λ g o shows. err_then c.listen.result (SameKept old new) (Shows p w g new o) (same_shows p w g old new o c.listen.ensures.others shows) c.listen.ensures.same
