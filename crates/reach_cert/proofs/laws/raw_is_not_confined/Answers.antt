use Rattle.std.proofs.Common.{[], ◌∷◌}
use Rattle.reach_cert.specs.declared.cert.Ref.TheVariants.{Raw, Global}
use Rattle.reach_cert.proofs.Walking.{walks_stay, leaking, leaks_raw}
use Rattle.reach_cert.proofs.laws.raw_is_not_confined.Goals as goal

pub returns-clause-raw : goal.returns-clause-raw
returns-clause-raw c = λ slots name walk confined. walks_stay slots confined name Raw walk

pub returns-clause-global : goal.returns-clause-global
returns-clause-global c = λ slots name walk confined. walks_stay slots confined name Global walk

pub returns-clause-some : goal.returns-clause-some
returns-clause-some c = (leaking, 65 ∷ 95 ∷ [], leaks_raw)
