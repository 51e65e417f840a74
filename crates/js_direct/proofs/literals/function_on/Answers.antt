use Rattle.std.proofs.Common.{ap, ◌∙◌, arith}
use Rattle.std.proofs.lemmas.Result.{IfOk-weaker}
use Rattle.js_tree.specs.Forest.{fun_at}
use Rattle.js_tree.specs.Plain as node
use Rattle.store_cells.specs.declared.value.Value.TheVariants as value
use Rattle.widget_meaning.specs.Costs.{give}
use Rattle.widget_meaning.specs.Expressions.{expression}
use Rattle.widget_meaning.specs.Plan.{Halt}
use Rattle.js_image.specs.Image.{image}
use Rattle.js_image.specs.Plans.{made_plan, meant_cause}
use Rattle.js_names.specs.Code.{trees_of}
use Rattle.js_flow.specs.Parts.{forest_at}
use Rattle.js_flow.specs.Views.{place_of}
use Rattle.js_direct.proofs.FormFrames.{gives_value}
use Rattle.js_direct.proofs.Parts.{before_it}
use Rattle.js_direct.proofs.literals.function_on.Goals as goal

pub returns-in-Cell-clause-comes : goal.returns-in-Cell-clause-comes
returns-in-Cell-clause-comes c =
    let fs = trees_of c.args.here.now.site.now.codes.now.items in
    let w = c.args.here.now.site.now.widget in
    let old = c.args.store.now in
    let new = c.make.new.store in
    let place = c.args.here.now.at in
    gives_value fs w old new 30 (expression (node.Function (fun_at (forest_at fs place.code) c.args.fun)) (place_of w old.cells place)) c.args.run.now (value.Ref c.in-Cell.id) c.requires.ready.2
    (λ r. c.in_ok-id.ensures.plan fs r give ∙ ap (λ m. made_plan w new.cells m give (image fs r w new)) c.in-Cell.is)
    (rw c.in-Cell.is at c.in_ok-id.ensures.fine) (omega arith)

pub returns-in-Stop-clause-comes : goal.returns-in-Stop-clause-comes
returns-in-Stop-clause-comes c =
    let fs = trees_of c.args.here.now.site.now.codes.now.items in
    let w = c.args.here.now.site.now.widget in
    let old = c.args.store.now in
    let new = c.make.new.store in
    let place = c.args.here.now.at in
    IfOk-weaker c.stop.result _ _
    (λ h x. before_it fs w old new 0 30 (expression (node.Function (fun_at (forest_at fs place.code) c.args.fun)) (place_of w old.cells place)) (λ t. Halt (meant_cause c.in-Stop.cause) t) c.args.run.now c.stop.new.run h _
    (λ r. c.in_ok-id.ensures.plan fs r give ∙ ap (λ m. made_plan w new.cells m give (image fs r w new)) c.in-Stop.is)
    (x fs w new c.args.out.now) (omega arith))
    c.stop.ensures.comes
