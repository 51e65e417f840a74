use Rattle.std.proofs.Common.{◌<◌, arith, length}
use Rattle.store_cells.proofs.Live.{count_more}
use Rattle.store_cells.proofs.pairs.keys_len.Goals as goal

pub loop-at-preserved : goal.loop-at-preserved
loop-at-preserved c =
    let es = c.args.table.now.entries in
    let lt : c.loop-at.at < length es = omega (arith, c.len-at-end.ensures.len, c.loop-at-test.true) in (
      count_more c.args.names.now c.args.array es c.loop-at.at c.loop-at.count c.count_key-count.result c.requires lt c.loop-at.invariant.0 c.count_key-count.ensures.count,
      omega (arith, c.loop-at.invariant.1, c.count_key-count.ensures.small),
    )
