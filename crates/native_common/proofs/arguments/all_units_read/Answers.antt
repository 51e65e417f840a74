use Rattle.std.proofs.Common.{◌+◌, List, drop, sum_by, ◌∙◌, arith}
use Rattle.std.proofs.lemmas.List.Sums.{sum_by-cons}
use Rattle.store_cells.specs.declared.value.Value.{Value}
use Rattle.std.proofs.lemmas.List.{at_drop_all}
use Rattle.widget_meaning.specs.GlobalNatives.{units_read}
use Rattle.js_image.specs.Image.{all_seen, seen}
use Rattle.native_common.proofs.Loops.{counted_all, counted_more, stepped}
use Rattle.native_common.proofs.arguments.all_units_read.Goals as goal

pub loop-v-preserved : goal.loop-v-preserved
loop-v-preserved c = record {
  small = omega arith;
  rest = λ w cells.
      let F = λ (xs : List Value). sum_by units_read (all_seen w cells xs) in
      counted_more c.loop-v.n c.units_read.result (units_read (seen w cells c.v-item.result)) c.saturating_add-n.result (F (drop c.loop-v.v-index c.args.vs.now)) (F (drop (c.loop-v.v-index + 1) c.args.vs.now)) (F c.args.vs.now)
      (c.units_read.ensures w cells) c.saturating_add-n.ensures
      (stepped F c.args.vs.now c.loop-v.v-index c.v-item.result c.loop-v-test.true c.v-item.is
      ∙ sum_by-cons units_read (seen w cells c.v-item.result) (all_seen w cells (drop (c.loop-v.v-index + 1) c.args.vs.now)))
      (c.loop-v.invariant.rest w cells);
}

pub returns : goal.returns
returns c = λ w cells.
    let F = λ (xs : List Value). sum_by units_read (all_seen w cells xs) in
    counted_all c.loop-v.n (F (drop c.loop-v.v-index c.args.vs.now)) (F c.args.vs.now) c.loop-v.invariant.small
    (at_drop_all F c.args.vs.now c.loop-v.v-index c.loop-v-test.false) (c.loop-v.invariant.rest w cells)
