use Rattle.std.proofs.Common.{length}
use Rattle.query_walks.proofs.Thinned.{Thins}
use Rattle.query_walks.proofs.once.each_once.Given as goal

abbrev pub invariant-filters : goal.invariant-filters
invariant-filters l = Thins l.nodes l.units l.rest l.classes.keys l.seen.keys l.kept.items l.most

abbrev pub decreases-filters : goal.decreases-filters
decreases-filters l = length l.rest
