use Rattle.std.proofs.Common.{◌≡◌, length}
use Rattle.reach_cert.specs.Words.{refs_in, with_front}
use Rattle.reach_cert.proofs.words.read_refs.Given as goal

abbrev pub invariant-each : goal.invariant-each
invariant-each l = refs_in l.text ≡ with_front l.refs.items (refs_in l.rest)

abbrev pub decreases-each : goal.decreases-each
decreases-each l = length l.rest
