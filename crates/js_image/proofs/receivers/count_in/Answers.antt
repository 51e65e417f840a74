use Rattle.std.proofs.Common.{◌+◌, ◌∙◌, arith, sym}
use Rattle.js_image.specs.Elements.{is_stored}
use Rattle.js_image.proofs.Indexes.{one_more}
use Rattle.js_image.proofs.receivers.count_in.Goals as goal

pub loop-at-preserved : goal.loop-at-preserved
loop-at-preserved c = (
  (λ j. c.loop-at.invariant.0 j + c.count_at-count.ensures.count j) ∙ sym (one_more (is_stored c.args.store.now.cells c.args.cell) 0 c.loop-at.at c.loop-at.at (omega arith)),
  omega (arith, c.loop-at.invariant.1, c.count_at-count.ensures.small),
)
