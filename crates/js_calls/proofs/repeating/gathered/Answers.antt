use Rattle.std.proofs.Common.{◌∙◌, ◌++◌, ◌∷◌, [], ap}
use Rattle.std.proofs.lemmas.Result.{IfOk-weaker}
use Rattle.js_image.specs.Image.{image}
use Rattle.js_names.specs.Code.{trees_of}
use Rattle.js_flow.specs.declared.frame.Gathering.{Gathering}
use Rattle.js_calls.proofs.Repeated.{one_result}
use Rattle.js_calls.proofs.repeating.gathered.Goals as goal

pub returns-clause-plan : goal.returns-clause-plan
returns-clause-plan c =
    let fs = trees_of c.args.codes.now.items in
    let s = c.args.store.now in
    let q = c.deref_mut.result.now in
    let same = c.deref_mut.ensures.value in
    IfOk-weaker c.gather.result _ _
    (λ n h r. h r ∙ one_result fs c.args.w s.cells (image fs r c.args.w s) c.args.g.value (record { func = q.func; items = q.items; results = c.push.new.self; keep = q.keep; depth = q.depth }) c.args.value
    (ap (λ (q : Gathering). q.func) same) (ap (λ (q : Gathering). q.items) same) (c.in_ok-push.ensures.items ∙ ap (λ (q : Gathering). q.results.items ++ c.args.value ∷ []) same) (ap (λ (q : Gathering). q.keep) same) (ap (λ (q : Gathering). q.depth) same))
    c.gather.ensures.plan
