use Rattle.std.proofs.Common.{◌≡◌, ◌+◌, ◌*◌, ◌<◌, true, sym, subst, arith}
use Rattle.std.specs.Prelude.{IfOk}
use Rattle.std.proofs.lemmas.Result.{IfOk-weaker}
use Rattle.js_names.specs.Code.{trees_of}
use Rattle.js_flow.specs.declared.job.Next.{Next}
use Rattle.js_flow.specs.Fine.{FineNext}
use Rattle.js_flow.specs.Frames.{next_plan}
use Rattle.js_flow.specs.Free.{next_free}
use Rattle.js_direct.specs.Comes.{ComesTo, came_free}
use Rattle.js_direct.specs.Going.{end_of, how_of, is_direct}
use Rattle.js_direct.proofs.Parts.{both_ok, more}
use Rattle.js_direct.proofs.going.run_next.Goals as goal

pub run_job-requires-clause-held : goal.run_job-requires-clause-held
run_job-requires-clause-held c = subst (λ (n : Next). FineNext (trees_of c.args.site.now.codes.now.items) c.args.site.now.widget c.args.store.now.cells n) c.in-Go.is c.requires.held

pub run_job-requires-clause-direct : goal.run_job-requires-clause-direct
run_job-requires-clause-direct c = subst (λ (n : Next). is_direct n ≡ true) c.in-Go.is c.requires.direct

pub run_block-requires-clause-held : goal.run_block-requires-clause-held
run_block-requires-clause-held c = subst (λ (n : Next). FineNext (trees_of c.args.site.now.codes.now.items) c.args.site.now.widget c.args.store.now.cells n) c.in-Run.is c.requires.held

pub returns-in-Go-clause-comes : goal.returns-in-Go-clause-comes
returns-in-Go-clause-comes c =
    let fs = trees_of c.args.site.now.codes.now.items in
    let w = c.args.site.now.widget in
    let old = c.args.store.now in
    let new = c.run_job.new.store in
    subst (λ (n : Next). IfOk c.run_job.result (λ o. ComesTo fs w old new 1 (next_plan fs w old.cells n) c.args.run.now c.run_job.new.run (how_of o) (end_of o))) (sym c.in-Go.is)
    (IfOk-weaker c.run_job.result _ _ (λ o h. more fs w old new 0 1 _ _ _ _ _ h (omega arith)) c.run_job.ensures.comes)

pub returns-in-Go-clause-near : goal.returns-in-Go-clause-near
returns-in-Go-clause-near c =
    let fs = trees_of c.args.site.now.codes.now.items in
    let w = c.args.site.now.widget in
    subst (λ (n : Next). IfOk c.run_job.result (λ o. came_free fs w (how_of o) c.run_job.new.run + 32 * c.run_job.new.run.units < 32 * c.args.run.now.units + next_free n)) (sym c.in-Go.is)
    (IfOk-weaker c.run_job.result _ _ (λ o h. omega (arith, h.0.near, h.1 c.requires.units)) (both_ok c.run_job.result _ _ c.run_job.ensures.comes c.run_job.ensures.paid))

pub returns-in-Run-clause-comes : goal.returns-in-Run-clause-comes
returns-in-Run-clause-comes c =
    let fs = trees_of c.args.site.now.codes.now.items in
    let w = c.args.site.now.widget in
    let old = c.args.store.now in
    let new = c.run_block.new.store in
    subst (λ (n : Next). IfOk c.run_block.result (λ o. ComesTo fs w old new 1 (next_plan fs w old.cells n) c.args.run.now c.run_block.new.run (how_of o) (end_of o))) (sym c.in-Run.is)
    c.run_block.ensures.comes

pub returns-in-Run-clause-near : goal.returns-in-Run-clause-near
returns-in-Run-clause-near c =
    let fs = trees_of c.args.site.now.codes.now.items in
    let w = c.args.site.now.widget in
    subst (λ (n : Next). IfOk c.run_block.result (λ o. came_free fs w (how_of o) c.run_block.new.run + 32 * c.run_block.new.run.units < 32 * c.args.run.now.units + next_free n)) (sym c.in-Run.is)
    (IfOk-weaker c.run_block.result _ _ (λ o h. omega (arith, h.near, h.units)) c.run_block.ensures.comes)
