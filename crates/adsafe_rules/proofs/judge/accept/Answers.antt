use Rattle.std.proofs.Common.{refl, sym, subst}
use Rattle.adsafe_rules.specs.Accepting.{IsJudged}
use Rattle.adsafe_rules.proofs.Judging.{judged}
use Rattle.adsafe_rules.proofs.judge.accept.Goals as goal

pub invariant_of-result : goal.invariant_of-result
invariant_of-result c =
    let holds = judged c.args.tree c.args.scope.now _ _ c.first_function-fun.result c.in_ok-lib_name.lib_name c.requires c.program.ensures.same c.program-2.ensures.same c.first_function-fun.ensures.same c.first_function-fun.ensures.inside c.in_ok-lib_name.ensures in
    record { judged = ∣ subst (λ s. IsJudged c.args.tree s c.first_function-fun.result c.in_ok-lib_name.lib_name) (sym c.in_ok-position.ensures) holds ∣₁ }

pub returns : goal.returns
returns c = record {
  holds = refl;
  positioned = c.in_ok-position.ensures;
  judged = judged c.args.tree c.args.scope.now _ _ _ _ c.requires c.program.ensures.same c.program-2.ensures.same c.first_function-fun.ensures.same c.first_function-fun.ensures.inside c.in_ok-lib_name.ensures;
}
