use Rattle.std.proofs.Common.{sym, ap, ◌∙◌, refl, arith}
use Rattle.std.proofs.lemmas.Result.{IfOk-weaker}
use Rattle.std.specs.Fmt.{decimal}
use Rattle.store_cells.specs.declared.value.Value.TheVariants as value
use Rattle.js_names.specs.Code.{trees_of}
use Rattle.widget_meaning.specs.Values as meaning
use Rattle.widget_meaning.specs.Plan.{Halt, Ret}
use Rattle.widget_meaning.specs.Costs.{give, throw}
use Rattle.widget_meaning.specs.Properties.{put}
use Rattle.js_image.specs.Image.{image, seen}
use Rattle.js_image.specs.Plans.{meant_cause, meant_fault, put_plan}
use Rattle.js_image.proofs.Grown.{fine_stays, seen_stays}
use Rattle.js_image.proofs.Units.{kept_then}
use Rattle.js_direct.specs.Comes.{ended_as}
use Rattle.js_direct.proofs.FormFrames.{after_store, gives_value, instead}
use Rattle.js_direct.proofs.writing.put_at_on.Goals as goal

pub returns-in_err-put_at-clause-kept : goal.returns-in_err-put_at-clause-kept
returns-in_err-put_at-clause-kept c =
    let fs = trees_of c.args.site.now.codes.now.items in
    let w = c.args.site.now.widget in
    let s = c.args.store.now in
    c.put_at.ensures.kept fs

pub throw-requires : goal.throw-requires
throw-requires c =
    let fs = trees_of c.args.site.now.codes.now.items in
    let w = c.args.site.now.widget in
    let s = c.args.store.now in
    record { ready = (c.requires.ready.0, (c.put_at.ensures.kept fs).confined c.requires.ready.1, c.requires.ready.2) }

pub returns-in-Done-clause-comes : goal.returns-in-Done-clause-comes
returns-in-Done-clause-comes c =
    let fs = trees_of c.args.site.now.codes.now.items in
    let w = c.args.site.now.widget in
    let s = c.args.store.now in
    let t = c.put_at.new.store in
    let v = c.args.out.now in
    let k = give (seen w s.cells v) in
    let kept = c.put_at.ensures.kept fs in
    let same = seen_stays w s.cells t.cells kept.grows v c.requires.values.1 in
    gives_value fs w s t 1 (λ x. put (seen w s.cells (value.Ref c.args.cell)) (decimal c.args.i) (seen w s.cells c.args.value) x k) c.args.run.now v c.requires.ready.2
    (λ r. c.in_ok-put_at.ensures.plan fs r k ∙ (ap (λ p. put_plan p k (image fs r w t)) c.in-Done.is ∙ sym (ap (λ u. Ret (meaning.Is u) (image fs r w t)) same)))
    (fine_stays w s.cells t.cells kept.grows v c.requires.values.1) (omega arith)

pub returns-in-Done-clause-kept : goal.returns-in-Done-clause-kept
returns-in-Done-clause-kept c =
    let fs = trees_of c.args.site.now.codes.now.items in
    let w = c.args.site.now.widget in
    let s = c.args.store.now in
    c.put_at.ensures.kept fs

pub returns-in-Throw-clause-comes : goal.returns-in-Throw-clause-comes
returns-in-Throw-clause-comes c =
    let fs = trees_of c.args.site.now.codes.now.items in
    let w = c.args.site.now.widget in
    let s = c.args.store.now in
    let t = c.put_at.new.store in
    let k = give (seen w s.cells c.args.out.now) in
    IfOk-weaker c.throw.result _ _
    (λ how h. after_store fs w s t c.throw.new.store 1 (throw (meant_fault c.in-Throw.fault)) (λ x. put (seen w s.cells (value.Ref c.args.cell)) (decimal c.args.i) (seen w s.cells c.args.value) x k) c.args.run.now c.throw.new.run how (ended_as how c.throw.new.out) h
    (λ r. c.in_ok-put_at.ensures.plan fs r k ∙ ap (λ p. put_plan p k (image fs r w t)) c.in-Throw.is))
    c.throw.ensures.comes

pub returns-in-Throw-clause-kept : goal.returns-in-Throw-clause-kept
returns-in-Throw-clause-kept c =
    let fs = trees_of c.args.site.now.codes.now.items in
    let w = c.args.site.now.widget in
    let s = c.args.store.now in
    kept_then fs w s c.put_at.new.store c.throw.new.store (c.put_at.ensures.kept fs) c.throw.ensures.kept

pub returns-in-Stop-clause-comes : goal.returns-in-Stop-clause-comes
returns-in-Stop-clause-comes c =
    let fs = trees_of c.args.site.now.codes.now.items in
    let w = c.args.site.now.widget in
    let s = c.args.store.now in
    let t = c.put_at.new.store in
    let k = give (seen w s.cells c.args.out.now) in
    IfOk-weaker c.stop.result _ _
    (λ how h. after_store fs w s t t 1 (λ x. Halt (meant_cause c.in-Stop.cause) x) (λ x. put (seen w s.cells (value.Ref c.args.cell)) (decimal c.args.i) (seen w s.cells c.args.value) x k) c.args.run.now c.stop.new.run how (ended_as how c.args.out.now)
    (instead fs w t t 0 1 (λ x. Halt (meant_cause c.in-Stop.cause) x) (λ x. Halt (meant_cause c.in-Stop.cause) x) c.args.run.now c.stop.new.run how (ended_as how c.args.out.now) (h fs w t c.args.out.now) (λ r. refl) (omega arith))
    (λ r. c.in_ok-put_at.ensures.plan fs r k ∙ ap (λ p. put_plan p k (image fs r w t)) c.in-Stop.is))
    c.stop.ensures.comes

pub returns-in-Stop-clause-kept : goal.returns-in-Stop-clause-kept
returns-in-Stop-clause-kept c =
    let fs = trees_of c.args.site.now.codes.now.items in
    let w = c.args.site.now.widget in
    let s = c.args.store.now in
    c.put_at.ensures.kept fs
