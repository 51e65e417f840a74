use Rattle.std.proofs.Common.{[], ap, ◌∙◌}
use Rattle.std.proofs.lemmas.Result.{on_ok_weaker}
use Rattle.store_cells.specs.declared.value.Value.TheVariants as value
use Rattle.js_image.specs.Image.{image, seen}
use Rattle.js_image.specs.Plans.{put_plan}
use Rattle.native_image.specs.Image.{beside, image as whole}
use Rattle.native_image.proofs.Joint.{rest, store_lift}
use Rattle.turn_dispatch.proofs.Filled.{filled_is}
use Rattle.turn_dispatch.proofs.events.fill.Goals as goal

pub returns-clause-filled : goal.returns-clause-filled
returns-clause-filled c = on_ok_weaker c.done.result (λ is. λ p fs x l b n ps sound e at has.
    let w = c.args.w.index in
    let old = c.args.store.now in
    let new = c.put.new.store in
    let r = rest w c.args.w.small x (beside old p l b) in
    filled_is (whole fs x w (beside old p l b)) (whole fs x w (beside new p l b)) (seen w old.cells (value.Ref c.args.event)) (seen w old.cells (value.Ref c.args.bunch)) n ps c.args.name.now e at has
    (λ k. c.in_ok-put.ensures.plan fs r k
    ∙ (ap (λ q. put_plan q k (image fs r w new)) is
    ∙ ap k (store_lift w old new p l sound.holds (c.put.ensures.kept []).grows c.args.w.small fs x b))))
    c.done.ensures
