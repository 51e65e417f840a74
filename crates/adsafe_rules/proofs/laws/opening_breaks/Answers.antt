use Rattle.adsafe_rules.proofs.Passing.{opening_stands}
use Rattle.adsafe_rules.proofs.laws.opening_breaks.Goals as goal

pub returns : goal.returns
returns c = λ scope env around s m r p h k b. opening_stands scope s h k b
