use Rattle.std.proofs.Common.{arith, refl}
use Rattle.js_names.specs.Code.{trees_of}
use Rattle.js_flow.specs.Left.{all_frames}
use Rattle.js_flow.specs.Statements.{block_at}
use Rattle.js_steps.proofs.Settled.{fine_all, free_all, plan_all}
use Rattle.js_steps.proofs.Weights.{left_light}
use Rattle.js_steps.proofs.machine.run.Goals as goal

pub returns-clause-plan : goal.returns-clause-plan
returns-clause-plan c = λ w cells s.
    let fs = trees_of c.args.codes.now.items in
    plan_all fs w cells cells c.begin_block.new.flow s (all_frames c.args.flow.now) (block_at fs w cells c.args.block 0 c.args.place s) c.in_ok-begin_block.ensures.below
    (c.in_ok-begin_block.ensures.plan w cells s) refl

pub returns-clause-fine : goal.returns-clause-fine
returns-clause-fine c = λ w cells p h.
    fine_all (trees_of c.args.codes.now.items) w cells c.begin_block.new.flow (all_frames c.args.flow.now) c.in_ok-begin_block.ensures.below (c.in_ok-begin_block.ensures.fine w cells p) h

pub returns-clause-near : goal.returns-clause-near
returns-clause-near c = omega (arith, c.in_ok-begin_block.ensures.near, free_all c.begin_block.new.flow (all_frames c.args.flow.now) c.in_ok-begin_block.ensures.below)

pub returns-clause-native : goal.returns-clause-native
returns-clause-native c = left_light c.begin_block.new.flow (omega (arith, c.in_ok-begin_block.ensures.near))
