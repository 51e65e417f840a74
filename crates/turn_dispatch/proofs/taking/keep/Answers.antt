use Rattle.std.proofs.Common.{ap, ◌∙◌, refl}
use Rattle.std.proofs.lemmas.Result.{IfOk-weaker}
use Rattle.widget_meaning.specs.Values.{Undefined}
use Rattle.widget_meaning.specs.Costs.{give}
use Rattle.js_image.specs.declared.outcome.Written.{Written}
use Rattle.js_image.specs.Image.{image}
use Rattle.js_image.specs.Plans.{put_plan}
use Rattle.js_image.proofs.Units.{kept_then}
use Rattle.turn_dispatch.proofs.taking.keep.Goals as goal

pub returns-in-Done-clause-next : goal.returns-in-Done-clause-next
returns-in-Done-clause-next c = record {
  plan = λ fs p r. c.in_ok-put.ensures.plan fs r (give Undefined) ∙ ap (λ (q : Written). put_plan q (give Undefined) (image fs r c.args.w.index c.put.new.store)) c.in-Done.is;
  fine = λ fs p. tt;
  near = refl;
}

pub returns-in-Stop-clause-next : goal.returns-in-Stop-clause-next
returns-in-Stop-clause-next c = record {
  plan = λ fs p r. c.in_ok-put.ensures.plan fs r (give Undefined) ∙ ap (λ (q : Written). put_plan q (give Undefined) (image fs r c.args.w.index c.put.new.store)) c.in-Stop.is;
  fine = λ fs p. tt;
  near = refl;
}

pub returns-clause-next : goal.returns-clause-next
returns-clause-next c =
    IfOk-weaker c.throw.result _ _
    (λ t h. record {
      plan = λ fs p r. c.in_ok-put.ensures.plan fs r (give Undefined) ∙ (ap (λ (q : Written). put_plan q (give Undefined) (image fs r c.args.w.index c.put.new.store)) c.in-Throw.is ∙ h.plan fs p r);
      fine = h.fine;
      near = h.near;
    })
    c.throw.ensures.next

pub returns-clause-kept : goal.returns-clause-kept
returns-clause-kept c = λ fs. kept_then fs c.args.w.index c.args.store.now c.put.new.store c.throw.new.store (c.put.ensures.kept fs) (c.throw.ensures.kept fs)
