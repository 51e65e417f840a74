use Rattle.std.proofs.Common.{◌≡◌, ◌+◌, ◌∷◌, drop, sym, ap, subst, ◌∙◌}
use Rattle.std.proofs.lemmas.Result.{IfOk-weaker}
use Rattle.js_tree.specs.Forest.{Forest, expr_at}
use Rattle.store_cells.specs.declared.value.Value.TheVariants as value
use Rattle.widget_meaning.specs.Expressions.{object_parts}
use Rattle.widget_meaning.specs.OwnState.{State}
use Rattle.widget_meaning.specs.Plan.{Plan}
use Rattle.js_image.specs.Image.{image, seen}
use Rattle.js_image.specs.Plans.{put_plan}
use Rattle.js_image.proofs.Grown.{seen_stays}
use Rattle.js_image.proofs.Units.{kept_then}
use Rattle.js_names.specs.Code.{trees_of}
use Rattle.js_flow.specs.Forms.{property_done}
use Rattle.js_flow.specs.Parts.{forest_at, properties_of}
use Rattle.js_flow.specs.Views.{place_of}
use Rattle.js_flow.proofs.Stays.{place_same}
use Rattle.js_expressions.proofs.literals.property.Goals as goal

pub returns-in-Done-clause-plan : goal.returns-in-Done-clause-plan
returns-in-Done-clause-plan c =
    let fs = trees_of c.args.codes.now.items in
    let w = c.args.w in
    let old = c.args.store.now in
    let new = c.put.new.store in
    let list = drop (c.args.at.2 + 1) (properties_of (expr_at (forest_at fs c.args.at.3.code) c.args.at.1)) in
    let a = seen w old.cells (value.Ref c.args.at.0) in
    let v = seen w old.cells c.args.value in
    let p = place_of w old.cells c.args.at.3 in
    let k : State → Plan = object_parts a list p in
    let grows = (c.put.ensures.kept fs).grows in
    let same = seen_stays w old.cells new.cells grows (value.Ref c.args.at.0) c.requires.held.0 in
    let stays = place_same fs w old.cells new.cells grows c.args.at.3 c.requires.held.1.0 in
    let id = c.args.at.1 in
    let n = c.args.at.2 in
    let q = c.in-Some.part.now in
    let there = subst (λ (f : Forest). drop n (properties_of (expr_at f id)) ≡ (q.0, expr_at f q.1) ∷ drop (n + 1) (properties_of (expr_at f id))) c.tree_at.ensures c.in-Some.ensures.2 in
    IfOk-weaker c.properties.result _ _
    (λ x h r. h (image fs r w new) ∙ (λ i. object_parts (same i) list (stays i) (image fs r w new))
    ∙ sym (ap (λ l. property_done a l p v (image fs r w old)) there ∙ c.in_ok-put-in-Some.ensures.plan fs r k ∙ ap (λ q. put_plan q k (image fs r w new)) c.in-Done.is))
    c.properties.ensures.plan

pub returns-in-Throw-clause-plan : goal.returns-in-Throw-clause-plan
returns-in-Throw-clause-plan c =
    let fs = trees_of c.args.codes.now.items in
    let w = c.args.w in
    let old = c.args.store.now in
    let list = drop (c.args.at.2 + 1) (properties_of (expr_at (forest_at fs c.args.at.3.code) c.args.at.1)) in
    let a = seen w old.cells (value.Ref c.args.at.0) in
    let v = seen w old.cells c.args.value in
    let p = place_of w old.cells c.args.at.3 in
    let k : State → Plan = object_parts a list p in
    let id = c.args.at.1 in
    let n = c.args.at.2 in
    let q = c.in-Some.part.now in
    let there = subst (λ (f : Forest). drop n (properties_of (expr_at f id)) ≡ (q.0, expr_at f q.1) ∷ drop (n + 1) (properties_of (expr_at f id))) c.tree_at.ensures c.in-Some.ensures.2 in
    IfOk-weaker c.throw.result _ _
    (λ x h r. h r ∙ sym (ap (λ l. property_done a l p v (image fs r w old)) there ∙ c.in_ok-put-in-Some.ensures.plan fs r k ∙ ap (λ q. put_plan q k (image fs r w c.put.new.store)) c.in-Throw.is))
    c.throw.ensures.plan

pub returns-in-Throw-clause-kept : goal.returns-in-Throw-clause-kept
returns-in-Throw-clause-kept c =
    let fs = trees_of c.args.codes.now.items in
    kept_then fs c.args.w c.args.store.now c.put.new.store c.throw.new.store (c.put.ensures.kept fs) c.throw.ensures.kept
