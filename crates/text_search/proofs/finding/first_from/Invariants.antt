use Rattle.std.proofs.Common.{◌+◌, ◌-◌, ◌*◌, ◌≤◌, length}
use Rattle.text_search.specs.Borders.{Agrees}
use Rattle.text_search.specs.Places.{NoneFrom}
use Rattle.text_search.proofs.finding.first_from.Given as goal

abbrev pub invariant-loop-agreed : goal.invariant-loop-agreed
invariant-loop-agreed l = record {
  onward : l.from ≤ l.place;
  whole : l.agreed ≤ length l.x;
  within : l.place + l.agreed ≤ length l.t;
  agrees : Agrees l.x l.t l.place l.agreed;
  none : NoneFrom l.t l.x l.from l.place;
}

abbrev pub decreases-loop-agreed : goal.decreases-loop-agreed
decreases-loop-agreed l = 2 * length l.t - (2 * l.place + l.agreed)
