use Rattle.std.proofs.Common.{◌≡◌, ℕ, ◌+◌, List, take, count_by}
use Rattle.std.specs.Str.{bytes_eq}
use Rattle.node_rules.specs.Enclosing.{count_of}
use Rattle.node_rules.proofs.enclosing.count_less.Given as goal

abbrev pub invariant-less : goal.invariant-less
invariant-less l = (q : List ℕ) → count_of l.counts q + count_by (bytes_eq q) (take l.name-index l.names) ≡ count_of l.initial.counts q
