use Rattle.first_breach.proofs.Narrowing as breaches
use Rattle.widget_form.proofs.laws.one_first.Goals as goal

pub returns : goal.returns
returns c = record {
  first = λ name libs file r p s q h k. breaches.one_first h k;
  good = λ name libs file r p h clean. clean r p h.broken;
}
