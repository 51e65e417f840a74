use Rattle.std.proofs.Common.{length, ◌-◌, ◌≡◌, ℕ, ◌<◌, ◌≤◌, get_or, false}
use Rattle.tree_ops.specs.Trees.{is_number}
use Rattle.page_nodes.proofs.links.place_of.Given as goal

-- none of those so far is the number
abbrev pub invariant-each : goal.invariant-each
invariant-each l = record {
  bound : l.place ≤ length l.list;
  no : (j : ℕ) → j < l.place → is_number (get_or l.list j 0) l.number ≡ false;
}

abbrev pub decreases-each : goal.decreases-each
decreases-each l = length l.list - l.place
