use Rattle.std.proofs.Common.{sym, ap, ◌∙◌}
use Rattle.widget_meaning.specs.Costs.{give}
use Rattle.js_image.specs.Image.{image}
use Rattle.js_image.specs.Plans.{made_plan}
use Rattle.js_names.specs.Code.{trees_of}
use Rattle.js_calls.proofs.repeating.new_array.Goals as goal

pub returns-in-Cell-clause-plan : goal.returns-in-Cell-clause-plan
returns-in-Cell-clause-plan c =
    let fs = trees_of c.args.codes.now.items in
    let new = c.make_array.new.store in
    rw c.give.ensures (λ r. sym (c.in_ok-id.ensures.plan fs r give ∙ ap (λ m. made_plan c.args.w new.cells m give (image fs r c.args.w new)) c.in-Cell.is))

pub returns-in-Stop-clause-plan : goal.returns-in-Stop-clause-plan
returns-in-Stop-clause-plan c =
    let fs = trees_of c.args.codes.now.items in
    let new = c.make_array.new.store in
    rw c.stop.ensures (λ r. sym (c.in_ok-id.ensures.plan fs r give ∙ ap (λ m. made_plan c.args.w new.cells m give (image fs r c.args.w new)) c.in-Stop.is))

pub returns-in_err-id-clause-kept : goal.returns-in_err-id-clause-kept
returns-in_err-id-clause-kept c = c.make_array.ensures.kept (trees_of c.args.codes.now.items)

pub returns-in-Cell-clause-kept : goal.returns-in-Cell-clause-kept
returns-in-Cell-clause-kept c = c.make_array.ensures.kept (trees_of c.args.codes.now.items)

pub returns-in-Stop-clause-kept : goal.returns-in-Stop-clause-kept
returns-in-Stop-clause-kept c = c.make_array.ensures.kept (trees_of c.args.codes.now.items)
