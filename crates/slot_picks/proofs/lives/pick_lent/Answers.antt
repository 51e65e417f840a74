use Rattle.std.proofs.Common.{◌∙◌, subst, sym}
use Rattle.std.proofs.lemmas.Result.{IfOk-weaker}
use Rattle.life_queue.specs.Fine.{FineLife}
use Rattle.slot_picks.proofs.Picking.{kept_lent, picks_lent}
use Rattle.slot_picks.proofs.lives.pick_lent.Goals as goal

pub pick_life-picked-requires-clause-fine : goal.pick_life-picked-requires-clause-fine
pick_life-picked-requires-clause-fine c =
    subst (λ codes. FineLife (record c.args.shared.now { codes = codes }) c.args.place.now.life.widget.id.index c.args.place.now.life) (sym c.swap.ensures.x_after) c.requires.fine

pub returns-clause-picked : goal.returns-clause-picked
returns-clause-picked c =
    IfOk-weaker c.pick_life-picked.result _ _
    (λ r h. picks_lent c.args.place.now.life.widget.id.index c.args.shared.now c.pick_life-picked.new.shared c.args.place.now c.pick_life-picked.new.life c.swap.new.x c.swap-2.new.x c.swap-2.new.y c.swap.ensures.x_after c.swap-2.ensures.y_after c.args.k r h)
    c.pick_life-picked.ensures.picked

pub returns-clause-kept : goal.returns-clause-kept
returns-clause-kept c = kept_lent c.args.place.now.life.widget.id.index c.args.shared.now c.pick_life-picked.new.shared c.args.place.now c.pick_life-picked.new.life c.swap.new.x c.swap-2.new.x c.swap-2.new.y c.swap.ensures.x_after c.swap-2.ensures.y_after c.pick_life-picked.ensures.kept

pub returns-clause-rest : goal.returns-clause-rest
returns-clause-rest c = c.swap-2.ensures.x_after ∙ c.swap.ensures.y_after
