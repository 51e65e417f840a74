use Rattle.std.proofs.Common.{refl}
use Rattle.widget_host.specs.Housed.{IsHoused, places, shared}
use Rattle.widget_host.proofs.Raws.{owner_at}
use Rattle.widget_host.proofs.Reading.{root_at}
use Rattle.widget_host.proofs.Stands.{laid_rooted, parent_of}
use Rattle.widget_host.proofs.host.Host.page.Goals as goal

pub returns-clause-are : goal.returns-clause-are
unfolding shared
returns-clause-are c = refl

pub returns-clause-laid : goal.returns-clause-laid
unfolding IsHoused
returns-clause-laid c = λ housed names pieces laid. laid_rooted c.args.self.now housed.0 names pieces laid

pub returns-clause-roots : goal.returns-clause-roots
returns-clause-roots c = λ housed v is. root_at c.args.self.now housed v is

pub returns-clause-stand : goal.returns-clause-stand
unfolding IsHoused places
returns-clause-stand c = λ housed v p at is. (housed.0.standing.roots v p at is, parent_of c.args.self.now housed.0 v p at is)

pub returns-clause-owners : goal.returns-clause-owners
unfolding IsHoused
returns-clause-owners c = λ housed v n owned. owner_at c.args.self.now housed.0 v n owned
