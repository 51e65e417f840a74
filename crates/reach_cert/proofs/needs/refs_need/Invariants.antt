use Rattle.std.proofs.Common.{◌≡◌, List, length}
use Rattle.reach_cert.specs.declared.cert.Ref.{Ref}
use Rattle.reach_cert.specs.Needs.{all_needed}
use Rattle.reach_cert.specs.Words.{refs_in, with_front}
use Rattle.reach_cert.proofs.needs.refs_need.Given as goal

abbrev pub invariant-each : goal.invariant-each
invariant-each l = (front : List Ref) × (l.most ≡ all_needed l.own front) × (refs_in l.text ≡ with_front front (refs_in l.rest))

abbrev pub decreases-each : goal.decreases-each
decreases-each l = length l.rest
