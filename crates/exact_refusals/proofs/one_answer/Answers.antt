use Rattle.exact_refusals.specs.Judge.{Takes}
use Rattle.exact_refusals.proofs.Exact.{one_syntax, one_deep, one_cause, no_tree, no_flat_tree}
use Rattle.exact_refusals.proofs.one_answer.Goals as goal

pub returns : goal.returns
returns g c = record {
  one_place = λ step done begin. one_syntax (Takes step done begin);
  one_deep = λ step done begin. one_deep (Takes step done begin);
  one_cause = λ step done begin. one_cause (Takes step done begin);
  no_tree = λ step done begin. no_tree (Takes step done begin);
  no_flat_tree = λ step done begin. no_flat_tree (Takes step done begin);
}
