use Rattle.std.proofs.Common.{◌∷◌, [], ◌∙◌, ap}
use Rattle.std.proofs.lemmas.Result.{IfOk-weaker}
use Rattle.js_calls.proofs.repeating.gather_call.Goals as goal

pub returns-clause-args : goal.returns-clause-args
returns-clause-args c = IfOk-weaker c.call_with.result _ _ (λ k h. h ∙ ap (λ v. c.args.item ∷ (v ∷ [])) c.count_of.ensures) c.call_with.ensures.args
