use Rattle.std.proofs.Common.{◌≡◌, ◌+◌, drop, map}
use Rattle.reach_cert.specs.Certs.{row_of}
use Rattle.reach_cert.specs.Walks.{some_leaves, first_from}
use Rattle.reach_cert.proofs.confining.row_leak.Given as goal

abbrev pub invariant-each : goal.invariant-each
invariant-each l = record {
  place : l.line ≡ l.first + l.row-index;
  left : first_from l.first (map (λ row. some_leaves l.name l.count row.refs) (map row_of l.rows))
      ≡ first_from l.line (map (λ row. some_leaves l.name l.count row.refs) (map row_of (drop l.row-index l.rows)));
}
