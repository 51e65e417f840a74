use Rattle.std.proofs.Common.{refl}
use Rattle.js_tree.specs.Trees.{trees, program_of}
use Rattle.js_pieces.specs.Tidy.{tidy}
use Rattle.js_print.proofs.Fronts.{refused, front_none, goes_refused}
use Rattle.js_print.proofs.Walks.{walked, stopped, popped_is, popped_are, popped_less}
use Rattle.js_print.proofs.print.print_tree.Goals as goal

pub returns-in_err-push : goal.returns-in_err-push
returns-in_err-push c = refused _ _ _ c.from_residual.ensures.0 (front_none _ _)

pub returns-in_err-push-2 : goal.returns-in_err-push-2
returns-in_err-push-2 c = goes_refused _ _ _ c.walk.out.items _ _ (tidy (program_of c.args.tree.now)) _ c.from_residual-in_err-push-2.ensures.0 c.walk.invariant.0 refl c.in_err-push-2.ensures.items

pub step-requires-clause-piece : goal.step-requires-clause-piece
step-requires-clause-piece c = popped_is (trees c.args.tree.now) c.walk.work.items _ c.in-Some.piece c.in-Some.ensures.items c.walk.invariant.1

pub step-requires-clause-stack : goal.step-requires-clause-stack
step-requires-clause-stack c = popped_are (trees c.args.tree.now) c.walk.work.items _ c.in-Some.piece c.in-Some.ensures.items c.walk.invariant.1

pub returns-in_err-begun : goal.returns-in_err-begun
returns-in_err-begun c = refused _ _ _ c.from_residual-in_err-begun.ensures.0 (stopped (trees c.args.tree.now) _ c.walk.out.items _ c.walk.begun c.walk.work.items _ c.in-Some.piece c.in-Some.ensures.items c.walk.invariant.0 _ c.in_err-begun.ensures)

pub walk-preserved : goal.walk-preserved
walk-preserved c = (walked (trees c.args.tree.now) _ c.walk.out.items _ c.walk.begun c.walk.work.items _ c.in-Some.piece c.in-Some.ensures.items c.walk.invariant.0 _ _ _ c.in_ok-begun.ensures, c.in_ok-begun.ensures.valid)

pub walk-smaller : goal.walk-smaller
walk-smaller c = popped_less (trees c.args.tree.now) c.walk.work.items _ _ c.in-Some.piece c.in-Some.ensures.items c.in_ok-begun.ensures.lighter
