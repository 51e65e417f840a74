use Rattle.std.proofs.Common.{refl}
use Rattle.widget_host.specs.Housed.{IsHoused, journal, seens}
use Rattle.widget_host.proofs.host.Host.journal.Goals as goal

pub returns-clause-are : goal.returns-clause-are
unfolding journal
returns-clause-are c = refl

pub returns-clause-short : goal.returns-clause-short
unfolding IsHoused journal
returns-clause-short c = λ housed unmarked. (housed.1 unmarked).slots.lives.short

pub returns-clause-joined : goal.returns-clause-joined
unfolding IsHoused journal seens
returns-clause-joined c = λ housed unmarked. (housed.1 unmarked).slots.joined
