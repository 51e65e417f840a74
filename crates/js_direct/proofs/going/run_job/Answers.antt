use Rattle.std.proofs.Common.{sym, subst}
use Rattle.std.specs.Prelude.{IfOk}
use Rattle.widget_meaning.specs.Plan.{Do, Ret}
use Rattle.js_names.specs.Code.{trees_of}
use Rattle.js_flow.specs.declared.job.Job.{Job}
use Rattle.js_flow.specs.Fine.{FineJob}
use Rattle.js_flow.specs.Views.{job_of}
use Rattle.js_direct.specs.Comes.{ComesTo}
use Rattle.js_direct.specs.Going.{end_of, how_of}
use Rattle.js_direct.proofs.going.run_job.Goals as goal

pub run_form-requires-clause-held : goal.run_form-requires-clause-held
run_form-requires-clause-held c =
    subst (λ (j : Job). FineJob (trees_of c.args.site.now.codes.now.items) c.args.site.now.widget c.args.store.now.cells j) c.in-Eval.is c.requires.held

pub returns-in-Eval-clause-comes : goal.returns-in-Eval-clause-comes
returns-in-Eval-clause-comes c =
    let fs = trees_of c.args.site.now.codes.now.items in
    let w = c.args.site.now.widget in
    let old = c.args.store.now in
    let new = c.run_form.new.store in
    subst (λ (j : Job). IfOk c.run_form.result (λ o. ComesTo fs w old new 0 (λ s. Do (job_of fs w old.cells j) s Ret) c.args.run.now c.run_form.new.run (how_of o) (end_of o))) (sym c.in-Eval.is)
    c.run_form.ensures.comes

pub run_target-requires-clause-held : goal.run_target-requires-clause-held
run_target-requires-clause-held c =
    subst (λ (j : Job). FineJob (trees_of c.args.site.now.codes.now.items) c.args.site.now.widget c.args.store.now.cells j) c.in-Target.is c.requires.held

pub returns-in-Target-clause-comes : goal.returns-in-Target-clause-comes
returns-in-Target-clause-comes c =
    let fs = trees_of c.args.site.now.codes.now.items in
    let w = c.args.site.now.widget in
    let old = c.args.store.now in
    let new = c.run_target.new.store in
    subst (λ (j : Job). IfOk c.run_target.result (λ o. ComesTo fs w old new 0 (λ s. Do (job_of fs w old.cells j) s Ret) c.args.run.now c.run_target.new.run (how_of o) (end_of o))) (sym c.in-Target.is)
    c.run_target.ensures.comes

pub run_statement-requires-clause-held : goal.run_statement-requires-clause-held
run_statement-requires-clause-held c =
    subst (λ (j : Job). FineJob (trees_of c.args.site.now.codes.now.items) c.args.site.now.widget c.args.store.now.cells j) c.in-Exec.is c.requires.held

pub returns-in-Exec-clause-comes : goal.returns-in-Exec-clause-comes
returns-in-Exec-clause-comes c =
    let fs = trees_of c.args.site.now.codes.now.items in
    let w = c.args.site.now.widget in
    let old = c.args.store.now in
    let new = c.run_statement.new.store in
    subst (λ (j : Job). IfOk c.run_statement.result (λ o. ComesTo fs w old new 0 (λ s. Do (job_of fs w old.cells j) s Ret) c.args.run.now c.run_statement.new.run (how_of o) (end_of o))) (sym c.in-Exec.is)
    c.run_statement.ensures.comes

pub run_passes-requires-clause-held : goal.run_passes-requires-clause-held
run_passes-requires-clause-held c =
    subst (λ (j : Job). FineJob (trees_of c.args.site.now.codes.now.items) c.args.site.now.widget c.args.store.now.cells j) c.in-Pass.is c.requires.held

pub returns-in-Pass-clause-comes : goal.returns-in-Pass-clause-comes
returns-in-Pass-clause-comes c =
    let fs = trees_of c.args.site.now.codes.now.items in
    let w = c.args.site.now.widget in
    let old = c.args.store.now in
    let new = c.run_passes.new.store in
    subst (λ (j : Job). IfOk c.run_passes.result (λ o. ComesTo fs w old new 0 (λ s. Do (job_of fs w old.cells j) s Ret) c.args.run.now c.run_passes.new.run (how_of o) (end_of o))) (sym c.in-Pass.is)
    c.run_passes.ensures.comes

pub run_call-requires-clause-held : goal.run_call-requires-clause-held
run_call-requires-clause-held c =
    subst (λ (j : Job). FineJob (trees_of c.args.site.now.codes.now.items) c.args.site.now.widget c.args.store.now.cells j) c.in-Call.is c.requires.held

pub returns-in-Call-clause-comes : goal.returns-in-Call-clause-comes
returns-in-Call-clause-comes c =
    let fs = trees_of c.args.site.now.codes.now.items in
    let w = c.args.site.now.widget in
    let old = c.args.store.now in
    let new = c.run_call.new.store in
    subst (λ (j : Job). IfOk c.run_call.result (λ o. ComesTo fs w old new 0 (λ s. Do (job_of fs w old.cells j) s Ret) c.args.run.now c.run_call.new.run (how_of o) (end_of o))) (sym c.in-Call.is)
    c.run_call.ensures.comes
