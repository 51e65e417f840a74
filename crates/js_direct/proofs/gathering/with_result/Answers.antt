use Rattle.std.proofs.Common.{◌∙◌, ◌++◌, ◌∷◌, [], ap}
use Rattle.js_flow.specs.declared.frame.Gathering.{Gathering}
use Rattle.js_direct.proofs.gathering.with_result.Goals as goal

pub returns : goal.returns
returns c =
    let same = c.deref_mut.ensures.value in
    record {
      func = ap (λ (q : Gathering). q.func) same;
      items = ap (λ (q : Gathering). q.items) same;
      results = c.in_ok-push.ensures.items ∙ ap (λ (q : Gathering). q.results.items ++ c.args.value ∷ []) same;
      keep = ap (λ (q : Gathering). q.keep) same;
      depth = ap (λ (q : Gathering). q.depth) same;
    }
