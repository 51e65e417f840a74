use Rattle.std.proofs.Common.{sym, ap, ◌∙◌, [], ◌≡◌}
use Rattle.std.proofs.lemmas.Result.{IfOk-weaker}
use Rattle.js_tree.specs.Forest.{expr_at}
use Rattle.store_cells.specs.declared.value.Value.TheVariants as value
use Rattle.widget_meaning.specs.Expressions as expressions
use Rattle.widget_meaning.specs.OwnState.{State}
use Rattle.widget_meaning.specs.Plan.{Plan}
use Rattle.widget_meaning.specs.Values.{Value}
use Rattle.js_image.specs.Image.{image, seen}
use Rattle.js_image.specs.Plans.{made_plan}
use Rattle.js_names.specs.Code.{trees_of}
use Rattle.permitted_table.specs.declared.native.HostEntry.TheVariants as entry
use Rattle.widget_meaning.specs.Costs.{make}
use Rattle.widget_meaning.specs.OwnState.{new_object}
use Rattle.widget_meaning.specs.Values as meaning
use Rattle.js_image.proofs.Hosts.{entry_link}
use Rattle.js_flow.specs.Parts.{forest_at, properties_of}
use Rattle.js_flow.specs.Views.{place_of}
use Rattle.js_flow.proofs.Stays.{place_same}
use Rattle.js_expressions.proofs.literals.object.Goals as goal

pub returns-in-Cell-clause-plan : goal.returns-in-Cell-clause-plan
returns-in-Cell-clause-plan c =
    let fs = trees_of c.args.codes.now.items in
    let w = c.args.w in
    let old = c.args.store.now in
    let new = c.make.new.store in
    let list = properties_of (expr_at (forest_at fs c.args.place.code) c.args.id) in
    let k : Value → State → Plan = λ a t. expressions.object_parts a list (place_of w old.cells c.args.place) t in
    let e : seen w old.cells (value.Ref c.host-proto.result) ≡ meaning.Host entry.ObjectPrototype = ap (λ i. seen w old.cells (value.Ref i)) c.host-proto.ensures.place ∙ entry_link w old.cells c.lawful.ensures entry.ObjectPrototype in
    let stays = place_same fs w old.cells new.cells (c.make.ensures.kept fs tt).grows c.args.place c.requires.place.0 in
    IfOk-weaker c.properties.result _ _ (λ n h r. h (image fs r w new)
    ∙ (λ i. (λ (a : Value) (t : State). expressions.object_parts a list (stays i) t) (seen w new.cells (value.Ref c.in-Cell.cell)) (image fs r w new))
    ∙ sym (c.in_ok-cell.ensures.plan fs r k ∙ ap (λ m. made_plan w new.cells m k (image fs r w new)) c.in-Cell.is)
    ∙ (λ i. make (new_object (e i) []) 0 (image fs r w old) k))
    c.properties.ensures.plan

pub returns-in-Stop-clause-plan : goal.returns-in-Stop-clause-plan
returns-in-Stop-clause-plan c =
    let fs = trees_of c.args.codes.now.items in
    let w = c.args.w in
    let old = c.args.store.now in
    let new = c.make.new.store in
    let list = properties_of (expr_at (forest_at fs c.args.place.code) c.args.id) in
    let k : Value → State → Plan = λ a t. expressions.object_parts a list (place_of w old.cells c.args.place) t in
    let e : seen w old.cells (value.Ref c.host-proto.result) ≡ meaning.Host entry.ObjectPrototype = ap (λ i. seen w old.cells (value.Ref i)) c.host-proto.ensures.place ∙ entry_link w old.cells c.lawful.ensures entry.ObjectPrototype in
    rw c.stop.ensures (λ r. sym (c.in_ok-cell.ensures.plan fs r k ∙ ap (λ m. made_plan w new.cells m k (image fs r w new)) c.in-Stop.is)
    ∙ (λ i. make (new_object (e i) []) 0 (image fs r w old) k))
