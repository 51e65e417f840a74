use Rattle.std.proofs.Common.{◌≡◌, ◌++◌, drop}
use Rattle.std.specs.List.{filter, flat_map}
use Rattle.plain_tree.specs.Trees.{height}
use Rattle.page_tree.specs.Entries.{at, tree}
use Rattle.page_tree.specs.Pages.{nodes}
use Rattle.page_tree.specs.Documents.{within, below}
use Rattle.query_walks.specs.Walks.{takes}
use Rattle.query_walks.proofs.wanted.Wanted.+collect.Given as goal

-- what is taken, and what is still to come
abbrev pub invariant-each : goal.invariant-each
invariant-each l = l.found.items ++ filter (takes (nodes l.page) l.self) (flat_map (within (nodes l.page)) (drop l.place (at (nodes l.page) l.node).children)) ≡ l.initial.found.items ++ filter (takes (nodes l.page) l.self) (below (nodes l.page) l.node)

abbrev pub decreases-collect : goal.decreases-collect
decreases-collect l = height (tree (nodes l.page.now) l.node)
