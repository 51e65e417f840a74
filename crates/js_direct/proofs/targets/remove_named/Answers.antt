use Rattle.std.proofs.Common.{Bool, ap, arith, refl, ◌∙◌, ◌≡◌}
use Rattle.std.proofs.lemmas.Result.{IfOk-weaker}
use Rattle.widget_meaning.specs.OwnState.{State}
use Rattle.widget_meaning.specs.Plan.{Plan}
use Rattle.js_image.specs.Image.{Rest, image, seen}
use Rattle.js_image.proofs.Units.{kept_then}
use Rattle.js_names.specs.Code.{trees_of}
use Rattle.js_direct.proofs.Parts.{gives}
use Rattle.js_direct.specs.Comes.{ended_as}
use Rattle.js_direct.proofs.FormFrames.{after_store}
use Rattle.widget_meaning.specs.Costs.{give}
use Rattle.widget_meaning.specs.Expressions.{delete_at}
use Rattle.js_image.specs.Plans.{meant_fault, removed_plan}
use Rattle.store_cells.specs.declared.value.Value.TheVariants as value
use Rattle.widget_meaning.specs.Values as meaning
use Rattle.js_direct.specs.declared.run.Ended.TheVariants as ended
use Rattle.widget_meaning.specs.Costs as costs
use Rattle.js_flow.specs.declared.job.Completion.TheVariants as completion
use Rattle.js_direct.proofs.targets.remove_named.Goals as goal

pub returns-in-Done-clause-comes : goal.returns-in-Done-clause-comes
returns-in-Done-clause-comes c =
    let fs = trees_of c.args.site.now.codes.now.items in
    let w = c.args.site.now.widget in
    let old = c.args.store.now in
    let of = meaning.Property (seen w old.cells c.args.base.now) c.args.name.now in
    let mid = c.remove.new.store in
    let k : Bool → State → Plan = λ b t. give (meaning.Truth b) t in
    let first : (r : Rest) → delete_at of (image fs r w old) ≡ removed_plan c.remove.result k (image fs r w mid) = λ r. c.remove.ensures.plan fs r k in
    gives fs w old mid 1 (delete_at of) c.args.run.now c.args.run.now ended.Is (completion.Is (value.Bool c.in-Done.answer)) tt refl c.requires.ready.2
    (λ r. first r ∙ ap (λ q. removed_plan q k (image fs r w mid)) c.in-Done.is) tt (omega arith)

pub returns-in-Done-clause-kept : goal.returns-in-Done-clause-kept
returns-in-Done-clause-kept c = c.remove.ensures.kept (trees_of c.args.site.now.codes.now.items)

pub throw-requires : goal.throw-requires
throw-requires c =
    let fs = trees_of c.args.site.now.codes.now.items in
    let w = c.args.site.now.widget in
    let old = c.args.store.now in
    record { ready = (c.requires.ready.0, (c.remove.ensures.kept fs).confined c.requires.ready.1, c.requires.ready.2) }

pub returns-in-Throw-clause-comes : goal.returns-in-Throw-clause-comes
returns-in-Throw-clause-comes c =
    let fs = trees_of c.args.site.now.codes.now.items in
    let w = c.args.site.now.widget in
    let old = c.args.store.now in
    let of = meaning.Property (seen w old.cells c.args.base.now) c.args.name.now in
    let mid = c.remove.new.store in
    let k : Bool → State → Plan = λ b t. give (meaning.Truth b) t in
    let first : (r : Rest) → delete_at of (image fs r w old) ≡ removed_plan c.remove.result k (image fs r w mid) = λ r. c.remove.ensures.plan fs r k in
    IfOk-weaker c.throw.result _ _
    (λ h x. after_store fs w old mid c.throw.new.store 1 (costs.throw (meant_fault c.in-Throw.fault)) (delete_at of) c.args.run.now c.throw.new.run h (ended_as h c.throw.new.out) x
    (λ r. first r ∙ ap (λ q. removed_plan q k (image fs r w mid)) c.in-Throw.is))
    c.throw.ensures.comes

pub returns-in-Throw-clause-kept : goal.returns-in-Throw-clause-kept
returns-in-Throw-clause-kept c =
    let fs = trees_of c.args.site.now.codes.now.items in
    let w = c.args.site.now.widget in
    let old = c.args.store.now in
    kept_then fs w old c.remove.new.store c.throw.new.store (c.remove.ensures.kept fs) c.throw.ensures.kept
