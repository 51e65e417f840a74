use Rattle.std.proofs.Common.{◌≡◌, drop, arith, subst}
use Rattle.js_pieces.specs.Todo.{row, row_cost, Pushes}
use Rattle.js_pieces.proofs.Stacks.{row_end, row_pushed, pushes_none}
use Rattle.js_pieces.proofs.work.push_all.Goals as goal

pub pieces-init : goal.pieces-init
pieces-init c = (omega arith, λ f h. rw (row_end f c.args.pieces.now) (pushes_none f c.args.work.now.items _))

pub pieces-preserved : goal.pieces-preserved
pieces-preserved c = (omega (arith, c.pieces.invariant.0), λ f h. row_pushed f c.args.pieces.now c.pieces.left c.index-pieces-left.result _ c.pieces.work.items _ c.pieces-test.true c.pieces.invariant.0 c.index-pieces-left.is h (c.pieces.invariant.1 f h) c.in_ok-push.ensures.items)

pub returns : goal.returns
returns c = λ f h. let z : c.pieces.left ≡ 0 = omega arith in subst (λ n. Pushes f (row f (drop n c.args.pieces.now)) (row_cost f (drop n c.args.pieces.now)) c.args.work.now.items c.pieces.work.items) z (c.pieces.invariant.1 f h)
