use Rattle.std.proofs.Common.{◌≡◌, suc, ◌<◌, ◌-◌, length}
use Rattle.plain_tree.specs.Trees.{height}
use Rattle.page_tree.specs.Entries.{tree, limit}
use Rattle.page_tree.specs.Pages.{nodes}
use Rattle.query_walks.specs.Walks.{below_any}
use Rattle.query_walks.proofs.named.is_below.Given as goal

-- the answer is that of the place
abbrev pub invariant-up : goal.invariant-up
invariant-up l = record {
  is_in : l.place < length (nodes l.page);
  same : below_any (nodes l.page) l.starts l.place ≡ below_any (nodes l.page) l.starts l.node;
}

abbrev pub decreases-up : goal.decreases-up
decreases-up l = suc limit - height (tree (nodes l.page) l.place)
