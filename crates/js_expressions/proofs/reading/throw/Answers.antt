use Rattle.std.proofs.Common.{sym, ap, ◌∙◌}
use Rattle.widget_meaning.specs.Plan.{Ret}
use Rattle.widget_meaning.specs.Values as meaning
use Rattle.js_image.specs.Image.{image}
use Rattle.js_image.specs.Plans.{made_plan}
use Rattle.js_names.specs.Code.{trees_of}
use Rattle.js_expressions.proofs.reading.throw.Goals as goal

pub returns-in-Cell-clause-plan : goal.returns-in-Cell-clause-plan
returns-in-Cell-clause-plan c =
    let fs = trees_of c.args.codes.now.items in
    rw c.give.ensures (λ r. sym (c.in_ok-cell.ensures.plan fs r (λ v t. Ret (meaning.Throw v) t)
    ∙ ap (λ m. made_plan c.args.w c.make_fault.new.store.cells m (λ v t. Ret (meaning.Throw v) t) (image fs r c.args.w c.make_fault.new.store)) c.in-Cell.is))

pub returns-in-Stop-clause-plan : goal.returns-in-Stop-clause-plan
returns-in-Stop-clause-plan c =
    let fs = trees_of c.args.codes.now.items in
    rw c.stop.ensures (λ r. sym (c.in_ok-cell.ensures.plan fs r (λ v t. Ret (meaning.Throw v) t)
    ∙ ap (λ m. made_plan c.args.w c.make_fault.new.store.cells m (λ v t. Ret (meaning.Throw v) t) (image fs r c.args.w c.make_fault.new.store)) c.in-Stop.is))

pub returns-in_err-cell-clause-kept : goal.returns-in_err-cell-clause-kept
returns-in_err-cell-clause-kept c = c.make_fault.ensures.kept (trees_of c.args.codes.now.items)

pub returns-in-Cell-clause-kept : goal.returns-in-Cell-clause-kept
returns-in-Cell-clause-kept c = c.make_fault.ensures.kept (trees_of c.args.codes.now.items)

pub returns-in-Stop-clause-kept : goal.returns-in-Stop-clause-kept
returns-in-Stop-clause-kept c = c.make_fault.ensures.kept (trees_of c.args.codes.now.items)
