use Rattle.exact_refusals.specs.Plain.{Reads}
use Rattle.exact_refusals.proofs.Plain.{one_place, no_tree}
use Rattle.exact_refusals.proofs.one_refusal.Goals as goal

pub returns : goal.returns
returns g c = record {
  place = λ step done begin. one_place (Reads step done begin);
  no_tree = λ step done begin. no_tree (Reads step done begin);
}
