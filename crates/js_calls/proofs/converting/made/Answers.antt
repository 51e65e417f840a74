use Rattle.std.proofs.Common.{length, ap, ◌∙◌}
use Rattle.std.proofs.lemmas.Result.{IfOk-weaker}
use Rattle.widget_meaning.specs.Costs.{give, make_text}
use Rattle.widget_meaning.specs.Values.{Normal, Text}
use Rattle.widget_meaning.specs.Plan.{Ret, charge}
use Rattle.widget_meaning.proofs.PlansHold.{plan_laws}
use Rattle.js_flow.specs.declared.frame.Frame.TheVariants.{Call}
use Rattle.js_flow.specs.declared.frame.CallFrame.TheVariants.{MakeText}
use Rattle.js_flow.specs.Frames.{taken}
use Rattle.js_calls.proofs.converting.made.Goals as goal

pub returns-clause-plan : goal.returns-clause-plan
returns-clause-plan c =
    let t = c.args.t in
    let units = c.units-units in
    IfOk-weaker c.push_pay.result _ _
    (λ k q. rw q (λ fs w cells s. plan_laws.charge_first (length units.result.now) s (Ret Normal s) (taken fs w cells (Call (MakeText t)))
    ∙ ap (λ l. charge (length l) s (make_text t s (give (Text t)))) units.ensures))
    c.push_pay.ensures
