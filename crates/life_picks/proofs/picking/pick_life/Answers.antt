use Rattle.std.proofs.Common.{subst}
use Rattle.std.proofs.lemmas.Result.{IfOk-weaker}
use Rattle.life_queue.specs.Fine.{KeepsLife}
use Rattle.life_queue.specs.Taken.{BeginsTurn}
use Rattle.life_queue.proofs.Keeps.{keeps_both}
use Rattle.life_picks.specs.Picking.{PicksLife}
use Rattle.life_picks.proofs.Carried.{picked_after}
use Rattle.life_picks.proofs.picking.pick_life.Goals as goal

pub returns-then-begun-clause-picked : goal.returns-then-begun-clause-picked
returns-then-begun-clause-picked c =
    let h = c.args.shared.now in
    let m = c.begin_turn.new.shared in
    let k = c.go_on-then-begun.new.shared in
    let a = c.args.life.now in
    let b = c.begin_turn.new.life in
    let l = c.go_on-then-begun.new.life in
    let w = a.widget.id.index in
    let begun = subst (λ x. BeginsTurn h m w x a b) c.if-begun.true c.in_ok-begun.ensures.begun in
    IfOk-weaker c.go_on-then-begun.result _ _
    (λ r p. picked_after h m w c.args.units a b k r l begun (subst (λ i. PicksLife m k i c.args.units r b l) c.begin_turn.ensures.kept.number p))
    c.go_on-then-begun.ensures.picked

pub returns-then-begun-clause-kept : goal.returns-then-begun-clause-kept
returns-then-begun-clause-kept c =
    let m = c.begin_turn.new.shared in
    let k = c.go_on-then-begun.new.shared in
    let a = c.args.life.now in
    let b = c.begin_turn.new.life in
    let l = c.go_on-then-begun.new.life in
    keeps_both a.widget.id.index c.args.shared.now m k a b l c.begin_turn.ensures.kept (subst (λ i. KeepsLife i m k b l) c.begin_turn.ensures.kept.number c.go_on-then-begun.ensures.kept)
