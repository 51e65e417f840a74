use Rattle.std.proofs.Common.{sym, ap, ◌∙◌}
use Rattle.std.proofs.lemmas.Result.{IfOk-weaker}
use Rattle.widget_meaning.specs.Values as meaning
use Rattle.widget_meaning.specs.Plan.{Ret}
use Rattle.widget_meaning.specs.Costs.{give}
use Rattle.js_image.specs.Image.{image, seen}
use Rattle.js_image.specs.Plans.{put_plan}
use Rattle.js_image.proofs.Grown.{fine_stays, seen_stays}
use Rattle.js_image.proofs.Units.{kept_then}
use Rattle.js_names.specs.Code.{trees_of}
use Rattle.js_expressions.proofs.reading.write_property.Goals as goal

pub returns-in_err-put-clause-kept : goal.returns-in_err-put-clause-kept
returns-in_err-put-clause-kept c = c.put.ensures.kept (trees_of c.args.codes.now.items)

pub returns-in-Done-clause-plan : goal.returns-in-Done-clause-plan
returns-in-Done-clause-plan c =
    let fs = trees_of c.args.codes.now.items in
    let w = c.args.w in
    let old = c.args.store.now in
    let new = c.put.new.store in
    let k = give (seen w old.cells c.args.values.1) in
    let same = seen_stays w old.cells new.cells (c.put.ensures.kept fs).grows c.args.values.1 c.requires.values.1 in
    rw c.give.ensures (λ r. ap (λ u. Ret (meaning.Is u) (image fs r w new)) same
    ∙ sym (c.in_ok-put.ensures.plan fs r k ∙ ap (λ p. put_plan p k (image fs r w new)) c.in-Done.is))

pub returns-in-Done-clause-fine : goal.returns-in-Done-clause-fine
returns-in-Done-clause-fine c =
    let fs = trees_of c.args.codes.now.items in
    rw c.give.ensures (tt, fine_stays c.args.w c.args.store.now.cells c.put.new.store.cells (c.put.ensures.kept fs).grows c.args.values.1 c.requires.values.1)

pub returns-in-Done-clause-kept : goal.returns-in-Done-clause-kept
returns-in-Done-clause-kept c = c.put.ensures.kept (trees_of c.args.codes.now.items)

pub returns-in-Throw-clause-plan : goal.returns-in-Throw-clause-plan
returns-in-Throw-clause-plan c =
    let fs = trees_of c.args.codes.now.items in
    let w = c.args.w in
    let k = give (seen w c.args.store.now.cells c.args.values.1) in
    IfOk-weaker c.throw.result _ _
    (λ n h r. h r ∙ sym (c.in_ok-put.ensures.plan fs r k ∙ ap (λ p. put_plan p k (image fs r w c.put.new.store)) c.in-Throw.is))
    c.throw.ensures.plan

pub returns-in-Throw-clause-kept : goal.returns-in-Throw-clause-kept
returns-in-Throw-clause-kept c =
    let fs = trees_of c.args.codes.now.items in
    kept_then fs c.args.w c.args.store.now c.put.new.store c.throw.new.store (c.put.ensures.kept fs) c.throw.ensures.kept

pub returns-in-Stop-clause-kept : goal.returns-in-Stop-clause-kept
returns-in-Stop-clause-kept c = c.put.ensures.kept (trees_of c.args.codes.now.items)
