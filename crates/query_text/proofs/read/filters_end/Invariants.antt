use Rattle.std.proofs.Common.{◌-◌, length}
use Rattle.query_text.proofs.Reading.{FiltersSoFar}
use Rattle.query_text.proofs.read.filters_end.Given as goal

abbrev pub invariant-filters : goal.invariant-filters
invariant-filters l = FiltersSoFar l.units l.at l.place

abbrev pub decreases-filters : goal.decreases-filters
decreases-filters l = length l.units - l.place
