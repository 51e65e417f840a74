use Rattle.std.proofs.Common.{refl}
use Rattle.widget_host.specs.Housed.{IsHoused, places, shared}
use Rattle.widget_host.proofs.Reading.{confined_at, counted_at, one_raw}
use Rattle.widget_host.proofs.host.Host.store.Goals as goal

pub returns-clause-are : goal.returns-clause-are
unfolding shared
returns-clause-are c = refl

pub returns-clause-confined : goal.returns-clause-confined
returns-clause-confined c = λ housed v is. confined_at c.args.self.now housed v is

pub returns-clause-counted : goal.returns-clause-counted
unfolding places
returns-clause-counted c = λ housed. counted_at c.args.self.now housed

pub returns-clause-raws : goal.returns-clause-raws
unfolding IsHoused shared
returns-clause-raws c = λ housed unmarked n lt. one_raw c.args.self.now.lives.shared.store.cells n c.nodes_have_one_cell.ensures ((housed.1 unmarked).raws n lt)
