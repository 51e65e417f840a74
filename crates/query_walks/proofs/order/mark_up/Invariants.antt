use Rattle.std.proofs.Common.{◌≡◌, ℕ, suc, ◌<◌, ◌-◌, ◌⊎◌, true, length}
use Rattle.plain_tree.specs.Trees.{height}
use Rattle.page_tree.specs.Entries.{tree, limit}
use Rattle.page_tree.specs.Pages.{nodes}
use Rattle.query_grammar.specs.Finds.{has_number}
use Rattle.query_walks.specs.Walks.{AreNodes, AreTops}
use Rattle.query_walks.proofs.Ordered.{IsClosedBut}
use Rattle.query_walks.proofs.order.mark_up.Given as goal

-- all but the place has its parent in the set
abbrev pub invariant-up : goal.invariant-up
invariant-up l = record {
  is_in : l.place < length (nodes l.page);
  closed : IsClosedBut l.page l.above l.place;
  nodes : AreNodes l.page l.above;
  tops : AreTops l.page l.above l.tops;
  node : (has_number l.above l.node ≡ true) ⊎ (l.node ≡ l.place);
  more : (n : ℕ) → has_number l.initial.above n ≡ true → has_number l.above n ≡ true;
}

abbrev pub decreases-up : goal.decreases-up
decreases-up l = suc limit - height (tree (nodes l.page) l.place)
