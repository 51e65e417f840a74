use Rattle.adsafe_rules.proofs.Passing.{directive_stands}
use Rattle.adsafe_rules.proofs.laws.directive_breaks.Goals as goal

pub returns : goal.returns
returns c = λ env around s m r p h k b. directive_stands s h k b
