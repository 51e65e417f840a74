use Rattle.std.proofs.Common.{◌∙◌, ap, arith, length}
use Rattle.list_methods.proofs.Joins.{joined_front, joined_more}
use Rattle.list_methods.proofs.joining.joined.Goals as goal

pub returns-then-len-most : goal.returns-then-len-most
returns-then-len-most c = λ w cells. omega (arith, c.if-len-most.true, c.len.ensures, ap length (c.loop-at.invariant w cells), joined_front c.args.separator.now w cells c.args.values.now c.loop-at.at)

pub loop-at-preserved : goal.loop-at-preserved
loop-at-preserved c = λ w cells. c.in_ok-push_joined.ensures w cells ∙ joined_more c.args.separator.now w cells c.args.values.now c.loop-at.at c.index-values-at.result c.loop-at.units.items c.loop-at-test.true c.index-values-at.is (c.loop-at.invariant w cells)
