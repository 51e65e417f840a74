use Rattle.std.proofs.Common.{ap, ◌∙◌, refl, subst}
use Rattle.widget_meaning.specs.Plan.{Ret}
use Rattle.widget_meaning.specs.Values as meaning
use Rattle.js_image.specs.declared.outcome.Made.{Made}
use Rattle.js_image.specs.Image.{image}
use Rattle.js_image.specs.Plans.{IsFineMade, made_plan}
use Rattle.turn_dispatch.proofs.taking.throw.Goals as goal

pub returns-in-Cell-clause-next : goal.returns-in-Cell-clause-next
returns-in-Cell-clause-next c = let w = c.args.w.index in let new = c.make_fault.new.store in record {
  plan = λ fs p r.
      c.in_ok-cell.ensures.plan fs r (λ v t. Ret (meaning.Throw v) t)
      ∙ ap (λ (m : Made). made_plan w new.cells m (λ v t. Ret (meaning.Throw v) t) (image fs r w new)) c.in-Cell.is;
  fine = λ fs p. subst (λ (m : Made). IsFineMade w new.cells m) c.in-Cell.is c.in_ok-cell.ensures.fine;
  near = refl;
}

pub returns-in-Stop-clause-next : goal.returns-in-Stop-clause-next
returns-in-Stop-clause-next c = let w = c.args.w.index in let new = c.make_fault.new.store in record {
  plan = λ fs p r.
      c.in_ok-cell.ensures.plan fs r (λ v t. Ret (meaning.Throw v) t)
      ∙ ap (λ (m : Made). made_plan w new.cells m (λ v t. Ret (meaning.Throw v) t) (image fs r w new)) c.in-Stop.is;
  fine = λ fs p. tt;
  near = refl;
}
