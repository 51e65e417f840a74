use Rattle.std.proofs.Common.{◌∙◌, arith, length, sym}
use Rattle.std.specs.Map.{keys_of}
use Rattle.pair_table.proofs.Rises.{near_all, near_next, near_none}
use Rattle.pair_table.proofs.few.all_near.Goals as goal

pub loop-at-init : goal.loop-at-init
loop-at-init g c = near_none (keys_of c.args.list.now)

pub loop-at-preserved : goal.loop-at-preserved
loop-at-preserved g c =
    let es = c.args.list.now in
    let at = c.loop-at.at in
    let r = c.index-list-at.result in
    near_next es at r c.loop-at.invariant (omega (arith, c.loop-at-test.true))
    (sym c.guess-near.ensures ∙ (omega (arith, c.if-near-at.false)))

pub returns : goal.returns
returns g c = λ yes. near_all (keys_of c.args.list.now) c.loop-at.at (length c.args.list.now) (omega (arith, c.loop-at-test.false)) c.loop-at.invariant
