use Rattle.std.proofs.Common.{◌≡◌, ◌+◌, drop, sym, ap, ◌∙◌, rules}
use Rattle.std.proofs.lemmas.Result.{IfOk-weaker}
use Rattle.js_tree.specs.Forest.{expr_at}
use Rattle.store_cells.specs.declared.value.Value.TheVariants as value
use Rattle.widget_meaning.specs.Expressions.{array_parts}
use Rattle.widget_meaning.specs.OwnState.{State}
use Rattle.widget_meaning.specs.Plan.{Plan}
use Rattle.widget_meaning.specs.Properties.{index_name, put}
use Rattle.js_image.specs.Image.{image, seen}
use Rattle.js_image.specs.Plans.{put_plan}
use Rattle.js_image.proofs.Grown.{seen_stays}
use Rattle.js_image.proofs.Units.{kept_then}
use Rattle.js_names.specs.Code.{trees_of}
use Rattle.js_flow.specs.Parts.{elements_of, forest_at}
use Rattle.js_flow.specs.Views.{place_of}
use Rattle.js_flow.proofs.Stays.{place_same}
use Rattle.js_expressions.proofs.literals.element.Goals as goal

pub returns-in-Done-clause-plan : goal.returns-in-Done-clause-plan
returns-in-Done-clause-plan c =
    let fs = trees_of c.args.codes.now.items in
    let w = c.args.w in
    let old = c.args.store.now in
    let new = c.put.new.store in
    let n = c.args.at.2 in
    let list = drop (n + 1) (elements_of (expr_at (forest_at fs c.args.at.3.code) c.args.at.1)) in
    let a = seen w old.cells (value.Ref c.args.at.0) in
    let k : State → Plan = array_parts a (n + 1) list (place_of w old.cells c.args.at.3) in
    let grows = (c.put.ensures.kept fs).grows in
    let same = seen_stays w old.cells new.cells grows (value.Ref c.args.at.0) c.requires.held.0 in
    let stays = place_same fs w old.cells new.cells grows c.args.at.3 c.requires.held.1.0 in
    let named : index_name n ≡ c.in_ok-name.name = search rules in
    IfOk-weaker c.elements.result _ _
    (λ x h r. h (image fs r w new) ∙ (λ i. array_parts (same i) (n + 1) list (stays i) (image fs r w new))
    ∙ sym (ap (λ m. put a m (seen w old.cells c.args.value) (image fs r w old) k) named ∙ c.in_ok-put.ensures.plan fs r k ∙ ap (λ q. put_plan q k (image fs r w new)) c.in-Done.is))
    c.elements.ensures.plan

pub returns-in-Throw-clause-plan : goal.returns-in-Throw-clause-plan
returns-in-Throw-clause-plan c =
    let fs = trees_of c.args.codes.now.items in
    let w = c.args.w in
    let old = c.args.store.now in
    let n = c.args.at.2 in
    let list = drop (n + 1) (elements_of (expr_at (forest_at fs c.args.at.3.code) c.args.at.1)) in
    let a = seen w old.cells (value.Ref c.args.at.0) in
    let k : State → Plan = array_parts a (n + 1) list (place_of w old.cells c.args.at.3) in
    let named : index_name n ≡ c.in_ok-name.name = search rules in
    IfOk-weaker c.throw.result _ _
    (λ x h r. h r ∙ sym (ap (λ m. put a m (seen w old.cells c.args.value) (image fs r w old) k) named ∙ c.in_ok-put.ensures.plan fs r k ∙ ap (λ q. put_plan q k (image fs r w c.put.new.store)) c.in-Throw.is))
    c.throw.ensures.plan

pub returns-in-Throw-clause-kept : goal.returns-in-Throw-clause-kept
returns-in-Throw-clause-kept c =
    let fs = trees_of c.args.codes.now.items in
    kept_then fs c.args.w c.args.store.now c.put.new.store c.throw.new.store (c.put.ensures.kept fs) c.throw.ensures.kept
