use Rattle.std.proofs.Common.{◌+◌, ◌-◌, ◌≤◌, length}
use Rattle.text_search.specs.Borders.{Agrees}
use Rattle.text_search.proofs.Shifts.{IsLastBelow}
use Rattle.text_search.proofs.finding.last_to.Given as goal

abbrev pub invariant-loop-next : goal.invariant-loop-next
invariant-loop-next l = record {
  whole : l.agreed ≤ length l.x;
  within : l.place + l.agreed ≤ length l.t;
  agrees : Agrees l.x l.t l.place l.agreed;
  last : IsLastBelow l.t l.x l.to l.place l.last;
}

abbrev pub decreases-loop-next : goal.decreases-loop-next
decreases-loop-next l = length l.t - l.place
