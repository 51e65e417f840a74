use Rattle.std.proofs.Common.{subst, sym, ◌∙◌}
use Rattle.query_walks.specs.Walks.{RiseFrom}
use Rattle.query_walks.proofs.Rising.{rise}
use Rattle.query_walks.proofs.marks.Risen.list.Goals as goal

pub returns-clause-rising : goal.returns-clause-rising
returns-clause-rising c = subst (λ l. RiseFrom 0 l) (c.self.view_is ∙ sym c.in_ok-list.ensures) (rise c.self.inside.set.keys c.len-count.ensures.ordered)
