use Rattle.std.proofs.Common.{◌≡◌, ℕ, take}
use Rattle.query_grammar.specs.Finds.{has_number}
use Rattle.query_walks.proofs.marks.Marks.of.Given as goal

abbrev pub invariant-each : goal.invariant-each
invariant-each l = (n : ℕ) → has_number l.marks n ≡ has_number (take l.node-index l.nodes) n
