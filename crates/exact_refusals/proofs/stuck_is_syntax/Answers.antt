use Rattle.exact_refusals.specs.Judge.{Takes}
use Rattle.exact_refusals.proofs.Exact.{refused_means}
use Rattle.exact_refusals.proofs.stuck_is_syntax.Goals as goal

pub returns : goal.returns
returns g c = λ step done begin closable. refused_means step done begin (Takes step done begin) (λ ts p h. h) (λ ts p h. h) closable
