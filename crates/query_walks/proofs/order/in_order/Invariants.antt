use Rattle.std.proofs.Common.{◌≡◌, ℕ, true, take}
use Rattle.query_grammar.specs.Finds.{has_number}
use Rattle.query_walks.specs.Walks.{AreNodes, IsClosed, AreTops}
use Rattle.query_walks.proofs.order.in_order.Given as goal

abbrev pub invariant-each : goal.invariant-each
invariant-each l = record {
  marks : (n : ℕ) → has_number l.marks n ≡ has_number (take l.node-index l.found) n;
  more : (n : ℕ) → has_number l.marks n ≡ true → has_number l.above n ≡ true;
  closed : IsClosed l.page l.above;
  nodes : AreNodes l.page l.above;
  tops : AreTops l.page l.above l.tops;
}
