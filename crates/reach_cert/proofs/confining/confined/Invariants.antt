use Rattle.std.proofs.Common.{◌≡◌, ◌+◌, ◌<◌, ◌++◌, [], ◌∷◌, false, length}
use Rattle.reach_cert.specs.Certs.{plain}
use Rattle.reach_cert.specs.Walks.{first_from, first_leak}
use Rattle.reach_cert.proofs.Leaks.{left}
use Rattle.reach_cert.proofs.confining.confined.Given as goal

abbrev pub invariant-each : goal.invariant-each
invariant-each l = record {
  few : l.line + length (left l.block-items l.block-index) < 4294967295;
  goes : first_leak (plain l.cert) ≡ first_from l.line (left l.block-items l.block-index ++ false ∷ []);
}
