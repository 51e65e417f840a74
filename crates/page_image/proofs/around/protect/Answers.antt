use Rattle.std.proofs.Common.{refl}
use Rattle.event_loop.specs.Kept as loop
use Rattle.page_image.specs.Around.{protected, Shows}
use Rattle.widget_meaning.specs.BunchWrites.{change_kept}
use Rattle.page_image.specs.Image.{number}
use Rattle.page_image.proofs.Results.{ok_then, err_then}
use Rattle.event_loop.specs.Around.{SameKept, ChangedAt}
use Rattle.page_image.proofs.States.{changed_shows, same_shows}
use Rattle.page_image.proofs.around.protect.Goals as goal

pub returns-clause-image : goal.returns-clause-image
returns-clause-image c =
    let p = c.args.page.now in
    let w = c.args.widget in
    let old = c.args.around.now in
    let new = c.protect.new.self in
    λ g s shows. ok_then c.protect.result (ChangedAt old new c.args.node (loop.protected)) (Shows p w g new (change_kept (protected) s (number p w c.args.node)).own)
    (changed_shows p w g old new s c.args.node (loop.protected) (protected) c.requires (λ k. refl) c.protect.ensures.others shows) c.protect.ensures.done

pub returns-clause-same : goal.returns-clause-same
returns-clause-same c =
    let p = c.args.page.now in
    let w = c.args.widget in
    let old = c.args.around.now in
    let new = c.protect.new.self in
    λ g o shows. err_then c.protect.result (SameKept old new) (Shows p w g new o) (same_shows p w g old new o c.protect.ensures.others shows) c.protect.ensures.same
