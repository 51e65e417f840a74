use Rattle.std.proofs.Common.{arith, sym, ◌∙◌}
use Rattle.js_image.proofs.Units.{kept_then}
use Rattle.js_names.specs.Code.{trees_of}
use Rattle.js_steps.proofs.Settled.{settled}
use Rattle.js_steps.proofs.machine.settle.Goals as goal

pub down-preserved : goal.down-preserved
down-preserved c =
    let w = c.args.w in
    let fs = trees_of c.args.codes.now.items in
    let kept = c.down.invariant in
    let step = c.in_ok-go_on.ensures in
    record {
      plan = λ r. step.plan r ∙ kept.plan r;
      fine = step.fine;
      kept = kept_then fs w c.args.store.now c.down.store c.go_on.new.store kept.kept c.go_on.ensures.kept;
      near = omega (arith, step.near, kept.near);
      native = λ x. absurd (step.native x);
    }

pub returns-in_err-go_on-clause-kept : goal.returns-in_err-go_on-clause-kept
returns-in_err-go_on-clause-kept c =
    kept_then (trees_of c.args.codes.now.items) c.args.w c.args.store.now c.down.store c.go_on.new.store c.down.invariant.kept c.go_on.ensures.kept

pub returns-clause-settled : goal.returns-clause-settled
returns-clause-settled c = settled (trees_of c.args.codes.now.items) c.args.w c.down.store.cells c.down.flow c.down.invariant.fine (sym c.is_free.ensures ∙ c.down-test.false)
