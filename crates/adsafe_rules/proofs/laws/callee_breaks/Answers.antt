use Rattle.adsafe_rules.proofs.Passing.{callee_stands}
use Rattle.adsafe_rules.proofs.laws.callee_breaks.Goals as goal

pub returns : goal.returns
returns c = λ env around e m r p h s b. callee_stands e h s b
