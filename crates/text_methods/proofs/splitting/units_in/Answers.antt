use Rattle.std.proofs.Common.{◌+◌, ◌∙◌, arith, length, sum_by, drop}
use Rattle.native_common.proofs.Loops.{counted_all, counted_more, stepped}
use Rattle.std.proofs.lemmas.List.{at_drop_all}
use Rattle.std.proofs.lemmas.List.Sums.{sum_by-cons}
use Rattle.text_methods.proofs.splitting.units_in.Goals as goal

pub returns : goal.returns
returns c =
    counted_all c.loop-part.n (sum_by length (drop c.loop-part.part-index c.args.parts.now)) (sum_by length c.args.parts.now) c.loop-part.invariant.small
    (at_drop_all (sum_by length) c.args.parts.now c.loop-part.part-index c.loop-part-test.false) c.loop-part.invariant.rest

pub loop-part-preserved : goal.loop-part-preserved
loop-part-preserved c =
    record {
      small = omega arith;
      rest = counted_more c.loop-part.n c.text_len.result (length c.part-item.result) c.saturating_add-n.result (sum_by length (drop c.loop-part.part-index c.args.parts.now)) (sum_by length (drop (c.loop-part.part-index + 1) c.args.parts.now)) (sum_by length c.args.parts.now)
          c.text_len.ensures.counted c.saturating_add-n.ensures
          (stepped (sum_by length) c.args.parts.now c.loop-part.part-index c.part-item.result c.loop-part-test.true c.part-item.is ∙ sum_by-cons length c.part-item.result (drop (c.loop-part.part-index + 1) c.args.parts.now))
          c.loop-part.invariant.rest;
    }
