use Rattle.std.proofs.Common.{◌≡◌, ◌+◌, ◌-◌, drop, map, length, nat_lt}
use Rattle.reach_cert.specs.Walks.{first_from}
use Rattle.reach_cert.proofs.judging.first_over.Given as goal

abbrev pub invariant-each : goal.invariant-each
invariant-each l = record {
  place : l.line ≡ l.after - length l.needs + l.need-index;
  left : first_from (l.after - length l.needs) (map (nat_lt l.count) l.needs) ≡ first_from l.line (map (nat_lt l.count) (drop l.need-index l.needs));
}
