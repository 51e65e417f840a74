use Rattle.std.proofs.Common.{◌≡◌, ◌++◌, drop}
use Rattle.std.specs.List.{filter, flat_map}
use Rattle.page_tree.specs.Pages.{nodes}
use Rattle.page_tree.specs.Documents.{within, is_loose}
use Rattle.query_walks.specs.Walks.{takes}
use Rattle.query_walks.proofs.order.walk_trees.Given as goal

-- what is taken, and what is still to come
abbrev pub invariant-each : goal.invariant-each
invariant-each l = l.list.items ++ filter (takes (nodes l.page) l.wanted) (flat_map (within (nodes l.page)) (filter (is_loose (nodes l.page) l.root l.owner) (drop l.top-index l.tops))) ≡ l.initial.list.items ++ filter (takes (nodes l.page) l.wanted) (flat_map (within (nodes l.page)) (filter (is_loose (nodes l.page) l.root l.owner) l.tops))
