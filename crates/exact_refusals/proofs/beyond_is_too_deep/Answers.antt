use Rattle.exact_refusals.specs.Judge.{Takes}
use Rattle.exact_refusals.proofs.Exact.{deeper_means}
use Rattle.exact_refusals.proofs.beyond_is_too_deep.Goals as goal

pub returns : goal.returns
returns g c = λ step done begin closable one_link. deeper_means step done begin (Takes step done begin) (λ ts p h. h) (λ ts p h. h) closable one_link
