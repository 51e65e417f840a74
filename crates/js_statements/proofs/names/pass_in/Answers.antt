use Rattle.std.proofs.Common.{◌≡◌, drop, ap, ◌∙◌}
use Rattle.std.proofs.lemmas.Result.{IfOk-weaker}
use Rattle.js_tree.specs.Forest.{Forest, stmt_at}
use Rattle.js_tree.specs.Lists.{stmt_list}
use Rattle.widget_meaning.specs.Plan as plan
use Rattle.widget_meaning.specs.Values as meaning
use Rattle.widget_meaning.specs.Calls.{statements}
use Rattle.widget_meaning.specs.Scopes.{assign}
use Rattle.widget_meaning.specs.Statements.{for_in_next}
use Rattle.js_image.specs.Image.{image, seen}
use Rattle.js_image.proofs.Grown.{scope_stays, seen_stays}
use Rattle.js_names.specs.Code.{trees_of}
use Rattle.js_flow.specs.Parts.{forest_at, loop_body, variable_of}
use Rattle.js_flow.specs.Views.{name_at, place_of}
use Rattle.js_statements.proofs.names.pass_in.Goals as goal

pub returns-clause-plan : goal.returns-clause-plan
returns-clause-plan c =
    let fs = trees_of c.args.codes.now.items in
    let f = forest_at fs c.args.place.code in
    let w = c.args.w in
    let old = c.args.store.now in
    let new = c.assign.new.store in
    let v = c.args.names.value in
    let grows = (c.assign.ensures.kept fs c.requires.confined).grows in
    let p : place_of w new.cells c.args.place ≡ place_of w old.cells c.args.place = λ j. record { scope = scope_stays w old.cells new.cells grows c.args.place.scope c.requires.names.1.0.1 j; depth = c.args.place.depth } in
    let x : c.in_ok-variable.variable ≡ variable_of (stmt_at f v.id) =
    c.in_ok-variable.ensures ∙ (ap (λ (g : Forest). variable_of (stmt_at g c.deref.result.now.id)) c.tree_at.ensures ∙ ap (λ u. variable_of (stmt_at f u.id)) c.deref.ensures) in
    let n : c.in_ok-name.name ≡ name_at v.names.items v.at = c.in_ok-name.ensures ∙ ap (λ u. name_at u.names.items u.at) c.deref-2.ensures in
    let e = c.behind.ensures in
    let o : seen w new.cells c.behind.result.value.object ≡ seen w old.cells v.object = ap (λ u. seen w new.cells u.object) e ∙ seen_stays w old.cells new.cells grows v.object c.requires.names.0 in
    IfOk-weaker c.push_run.result _ _
    (λ k q. rw q (λ r.
    let s : image fs r w new ≡ assign (image fs r w old) (place_of w old.cells c.args.place) (variable_of (stmt_at f v.id)) (meaning.Text (name_at v.names.items v.at)) =
    c.assign.ensures.plan fs r c.args.place.depth c.requires.confined ∙ (λ j. assign (image fs r w old) (place_of w old.cells c.args.place) (x j) (meaning.Text (n j))) in
    λ j. plan.and_then (statements (stmt_list (loop_body (stmt_at f (c.deref.ensures j).id))) (p j) (s j))
    (for_in_next (o j) (variable_of (stmt_at f (e j).id)) (drop (e j).at (e j).names.items) (stmt_list (loop_body (stmt_at f (e j).id))) (p j))))
    c.push_run.ensures
