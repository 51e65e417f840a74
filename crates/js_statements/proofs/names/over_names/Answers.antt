use Rattle.std.proofs.Common.{arith, ◌≡◌, Bool, if◌then◌else◌, drop, length, sym, ap, ◌∙◌}
use Rattle.std.proofs.lemmas.Result.{IfOk-weaker}
use Rattle.js_tree.specs.Forest.{stmt_at}
use Rattle.js_tree.specs.Lists.{stmt_list}
use Rattle.widget_meaning.specs.Costs.{throw}
use Rattle.widget_meaning.specs.Plan.{Ret, charge}
use Rattle.widget_meaning.proofs.PlansHold.{plan_laws}
use Rattle.widget_meaning.specs.Properties.{names_of}
use Rattle.widget_meaning.specs.Statements.{for_in}
use Rattle.widget_meaning.specs.Values.{E1, Normal}
use Rattle.js_image.specs.Image.{image, seen}
use Rattle.js_names.specs.Code.{trees_of}
use Rattle.js_flow.specs.declared.frame.ForInNames.{ForInNames}
use Rattle.js_flow.specs.Parts.{forest_at, loop_body, variable_of}
use Rattle.js_flow.specs.Views.{place_of}
use Rattle.js_statements.proofs.names.over_names.Goals as goal

pub returns-clause-plan : goal.returns-clause-plan
returns-clause-plan c =
    let fs = trees_of c.args.codes.now.items in
    let w = c.args.w in
    let cells = c.args.store.now.cells in
    let i = stmt_at (forest_at fs c.args.at.1.code) in
    let p = place_of w cells c.args.at.1 in
    let v = seen w cells c.args.object in
    let b = stmt_list (loop_body (i c.args.at.0)) in
    IfOk-weaker c.push_pay.result _ _
    (λ x q. rw q (λ r.
    let s = image fs r w c.args.store.now in
    let n = c.in_ok-names.ensures fs r w c.requires.confined c.requires.object in
    let k : c.len-count.result ≡ length (names_of s v) = omega (arith, c.len-count.ensures, ap length n) in
    plan_laws.charge_first c.len-count.result s (Ret Normal s) _
    ∙ (ap (λ (u : ForInNames). charge c.len-count.result s (for_in (seen w cells u.object) (variable_of (i u.id)) (drop u.at u.names.items) (stmt_list (loop_body (i u.id))) p s)) c.in_ok-listed.ensures.ok
    ∙ ((λ j. charge (k j) s (for_in v (variable_of (i c.args.at.0)) (n j) b p s))
    ∙ sym (ap (λ (t : Bool). if t then throw E1 s else charge (length (names_of s v)) s (for_in v (variable_of (i c.args.at.0)) (names_of s v) b p s)) c.requires.some)))))
    c.push_pay.ensures
