use Rattle.exact_refusals.proofs.Exact.{takes_once}
use Rattle.exact_refusals.proofs.one_tree.Goals as goal

pub returns : goal.returns
returns g c = λ step done begin ts us p q. takes_once step done ts us begin p q
