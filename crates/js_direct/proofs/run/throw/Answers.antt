use Rattle.std.proofs.Common.{◌≡◌, refl, sym, ap, ◌∙◌, subst, arith}
use Rattle.std.proofs.lemmas.Result.{IfOk-weaker}
use Rattle.widget_meaning.specs.Plan.{Ret}
use Rattle.widget_meaning.specs.Values as meaning
use Rattle.widget_meaning.specs.Costs as costs
use Rattle.js_image.specs.Image.{image}
use Rattle.js_image.specs.Plans.{IsFineMade, made_plan, meant_fault}
use Rattle.js_image.specs.declared.outcome.Made.{Made}
use Rattle.js_names.specs.Code.{trees_of}
use Rattle.store_cells.specs.declared.value.Value.TheVariants as value
use Rattle.js_flow.specs.declared.job.Completion.TheVariants as completion
use Rattle.js_direct.specs.declared.run.Ended.TheVariants as ended
use Rattle.js_direct.proofs.Parts.{before_it, gives}
use Rattle.js_direct.proofs.run.throw.Goals as goal

pub returns-in-Cell-clause-comes : goal.returns-in-Cell-clause-comes
returns-in-Cell-clause-comes c =
    let w = c.args.site.now.widget in
    let fs = trees_of c.args.site.now.codes.now.items in
    let old = c.args.store.now in
    let new = c.make_fault.new.store in
    let made = c.in_ok-cell.ensures in
    gives fs w old new 1 (costs.throw (meant_fault c.args.fault)) c.args.run.now c.args.run.now ended.Threw (completion.Throw (value.Ref c.in-Cell.cell)) tt refl c.requires.ready.2
    (λ r. made.plan fs r (λ v t. Ret (meaning.Throw v) t) ∙ ap (λ m. made_plan w new.cells m (λ v t. Ret (meaning.Throw v) t) (image fs r w new)) c.in-Cell.is)
    (subst (λ (m : Made). IsFineMade w new.cells m) c.in-Cell.is made.fine) (omega arith)

pub returns-in-Stop-clause-comes : goal.returns-in-Stop-clause-comes
returns-in-Stop-clause-comes c =
    let w = c.args.site.now.widget in
    let fs = trees_of c.args.site.now.codes.now.items in
    let old = c.args.store.now in
    let new = c.make_fault.new.store in
    let made = c.in_ok-cell.ensures in
    IfOk-weaker c.stop.result _ _
    (λ how h. before_it fs w old new 0 1 _ _ c.args.run.now c.stop.new.run how _
    (λ r. made.plan fs r (λ v t. Ret (meaning.Throw v) t) ∙ ap (λ m. made_plan w new.cells m (λ v t. Ret (meaning.Throw v) t) (image fs r w new)) c.in-Stop.is)
    (h fs w new c.args.out.now) (omega arith))
    c.stop.ensures.comes

pub returns-in-Stop-clause-thrown : goal.returns-in-Stop-clause-thrown
returns-in-Stop-clause-thrown c = IfOk-weaker c.stop.result _ _ (λ how h i. no_is (sym h ∙ i)) c.stop.ensures.left
  where
    no_is : ended.Left ≡ ended.Is → ⊥
    no_is e = cc

pub returns-in_err-cell-clause-kept : goal.returns-in_err-cell-clause-kept
returns-in_err-cell-clause-kept c = c.make_fault.ensures.kept (trees_of c.args.site.now.codes.now.items)

pub returns-in-Cell-clause-kept : goal.returns-in-Cell-clause-kept
returns-in-Cell-clause-kept c = c.make_fault.ensures.kept (trees_of c.args.site.now.codes.now.items)

pub returns-in-Stop-clause-kept : goal.returns-in-Stop-clause-kept
returns-in-Stop-clause-kept c = c.make_fault.ensures.kept (trees_of c.args.site.now.codes.now.items)
