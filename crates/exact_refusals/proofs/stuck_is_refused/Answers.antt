use Rattle.exact_refusals.specs.Plain.{Reads}
use Rattle.exact_refusals.proofs.Plain.{refused_is}
use Rattle.exact_refusals.proofs.stuck_is_refused.Goals as goal

pub returns : goal.returns
returns g c = λ step done begin closable. refused_is step done begin (Reads step done begin) (λ ts p h. h) (λ ts p h. h) closable
