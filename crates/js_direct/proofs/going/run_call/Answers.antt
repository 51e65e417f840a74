use Rattle.std.proofs.Common.{arith, sym, ap, ◌∙◌}
use Rattle.widget_meaning.specs.Plan.{Ret}
use Rattle.widget_meaning.proofs.Runs.{and_then_ret}
use Rattle.js_names.specs.Code.{trees_of}
use Rattle.js_calls.specs.Called.{invoked}
use Rattle.js_flow.specs.declared.job.Job.TheVariants as job
use Rattle.js_flow.specs.Views.{job_of}
use Rattle.js_direct.proofs.Parts.{unit_first}
use Rattle.js_direct.proofs.going.run_call.Goals as goal

pub returns-clause-comes : goal.returns-clause-comes
returns-clause-comes c =
    let fs = trees_of c.args.site.now.codes.now.items in
    let w = c.args.site.now.widget in
    let old = c.args.store.now in
    let new = c.invoke_on.new.store in
    unit_first fs w old new 4 0 (job_of fs w old.cells (job.Call c.args.call)) (invoked w old.cells c.into_inner.result) Ret c.args.run.now _ c.invoke_on.new.run _ _ (omega (arith, c.requires.units))
    (λ x. and_then_ret _ ∙ ap (λ k. invoked w old.cells k x) (sym c.into_inner.ensures))
    (c.came.ensures fs w old new 4 _ _ c.invoke_on.new.run c.in_ok-how.ensures.comes) (omega arith)
