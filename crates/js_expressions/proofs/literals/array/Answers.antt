use Rattle.std.proofs.Common.{sym, ap, ◌∙◌}
use Rattle.std.proofs.lemmas.Result.{IfOk-weaker}
use Rattle.js_tree.specs.Forest.{expr_at}
use Rattle.store_cells.specs.declared.value.Value.TheVariants as value
use Rattle.widget_meaning.specs.Expressions as expressions
use Rattle.widget_meaning.specs.OwnState.{State}
use Rattle.widget_meaning.specs.Plan.{Plan}
use Rattle.widget_meaning.specs.Values.{Value}
use Rattle.js_image.specs.Image.{image, seen}
use Rattle.js_image.specs.Plans.{made_plan}
use Rattle.js_names.specs.Code.{trees_of}
use Rattle.js_flow.specs.Parts.{forest_at, elements_of}
use Rattle.js_flow.specs.Views.{place_of}
use Rattle.js_flow.proofs.Stays.{place_same}
use Rattle.js_expressions.proofs.literals.array.Goals as goal

pub returns-in-Cell-clause-plan : goal.returns-in-Cell-clause-plan
returns-in-Cell-clause-plan c =
    let fs = trees_of c.args.codes.now.items in
    let w = c.args.w in
    let old = c.args.store.now in
    let new = c.make.new.store in
    let list = elements_of (expr_at (forest_at fs c.args.place.code) c.args.id) in
    let k : Value → State → Plan = λ a t. expressions.array_parts a 0 list (place_of w old.cells c.args.place) t in
    let stays = place_same fs w old.cells new.cells (c.make.ensures.kept fs tt).grows c.args.place c.requires.place.0 in
    IfOk-weaker c.elements.result _ _ (λ n h r. h (image fs r w new)
    ∙ (λ i. (λ (a : Value) (t : State). expressions.array_parts a 0 list (stays i) t) (seen w new.cells (value.Ref c.in-Cell.cell)) (image fs r w new))
    ∙ sym (c.in_ok-cell.ensures.plan fs r k ∙ ap (λ m. made_plan w new.cells m k (image fs r w new)) c.in-Cell.is))
    c.elements.ensures.plan

pub returns-in-Stop-clause-plan : goal.returns-in-Stop-clause-plan
returns-in-Stop-clause-plan c =
    let fs = trees_of c.args.codes.now.items in
    let w = c.args.w in
    let old = c.args.store.now in
    let new = c.make.new.store in
    let list = elements_of (expr_at (forest_at fs c.args.place.code) c.args.id) in
    let k : Value → State → Plan = λ a t. expressions.array_parts a 0 list (place_of w old.cells c.args.place) t in
    rw c.stop.ensures (λ r. sym (c.in_ok-cell.ensures.plan fs r k ∙ ap (λ m. made_plan w new.cells m k (image fs r w new)) c.in-Stop.is))
