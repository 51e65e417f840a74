use Rattle.std.proofs.Common.{sym, ap, ◌∙◌}
use Rattle.widget_meaning.specs.Costs.{give}
use Rattle.js_image.specs.Image.{image}
use Rattle.js_image.specs.Plans.{made_plan}
use Rattle.js_names.specs.Code.{trees_of}
use Rattle.js_expressions.proofs.literals.function.Goals as goal

pub returns-in-Cell-clause-plan : goal.returns-in-Cell-clause-plan
returns-in-Cell-clause-plan c =
    let fs = trees_of c.args.codes.now.items in
    rw c.give.ensures (λ r. sym (c.in_ok-id.ensures.plan fs r give ∙ ap (λ m. made_plan c.args.w c.make.new.store.cells m give (image fs r c.args.w c.make.new.store)) c.in-Cell.is))

pub returns-in-Stop-clause-plan : goal.returns-in-Stop-clause-plan
returns-in-Stop-clause-plan c =
    let fs = trees_of c.args.codes.now.items in
    rw c.stop.ensures (λ r. sym (c.in_ok-id.ensures.plan fs r give ∙ ap (λ m. made_plan c.args.w c.make.new.store.cells m give (image fs r c.args.w c.make.new.store)) c.in-Stop.is))
