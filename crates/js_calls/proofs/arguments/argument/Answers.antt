use Rattle.std.proofs.Common.{◌∙◌, ◌++◌, ◌∷◌, [], ap}
use Rattle.std.proofs.lemmas.Result.{IfOk-weaker}
use Rattle.js_image.specs.Image.{image}
use Rattle.js_names.specs.Code.{trees_of}
use Rattle.js_flow.specs.declared.frame.Argument.{Argument}
use Rattle.js_calls.proofs.Argued.{one_argument}
use Rattle.js_calls.proofs.arguments.argument.Goals as goal

pub returns-clause-plan : goal.returns-clause-plan
returns-clause-plan c =
    let fs = trees_of c.args.codes.now.items in
    let s = c.args.store.now in
    let q = c.deref_mut.result.now in
    let same = c.deref_mut.ensures.value in
    IfOk-weaker c.arguments.result _ _
    (λ n h r. h r ∙ one_argument fs c.args.w s.cells (image fs r c.args.w s) c.args.a.value (record { of = q.of; args = c.push.new.self; call = q.call; next = q.next; place = q.place }) c.args.value
    (ap (λ (q : Argument). q.of) same) (c.in_ok-push.ensures.ok ∙ ap (λ (q : Argument). q.args.items ++ c.args.value ∷ []) same) (ap (λ (q : Argument). q.call) same) (ap (λ (q : Argument). q.next) same) (ap (λ (q : Argument). q.place) same))
    c.arguments.ensures.plan
