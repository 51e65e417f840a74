use Rattle.std.proofs.Common.{◌≡◌, ◌++◌, take}
use Rattle.reach_cert.specs.Certs.{refs_text}
use Rattle.reach_cert.proofs.printing.push_refs.Given as goal

abbrev pub invariant-each : goal.invariant-each
invariant-each l = l.out.items ≡ l.fn.out.items ++ refs_text (take l.target-index l.refs)
