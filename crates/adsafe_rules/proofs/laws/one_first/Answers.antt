use Rattle.first_breach.proofs.Narrowing as breaches
use Rattle.first_breach.proofs.Least as least
use Rattle.adsafe_rules.specs.Program.{Breaks}
use Rattle.adsafe_rules.proofs.laws.one_first.Goals as goal

pub returns : goal.returns
returns c = record {
  one = λ program scope r p s q h k. breaches.one_first h k;
  some = λ program scope none. least.no_first (Breaks program scope) none;
}
