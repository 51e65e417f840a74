use Rattle.std.proofs.Common.{◌≡◌, ◌++◌, drop}
use Rattle.std.specs.List.{filter, flat_map}
use Rattle.page_tree.specs.Pages.{nodes}
use Rattle.page_tree.specs.Documents.{below}
use Rattle.query_walks.specs.Walks.{takes}
use Rattle.query_walks.proofs.hunt.all_below.Given as goal

-- what is taken, and what is still to come
abbrev pub invariant-each : goal.invariant-each
invariant-each l = l.found.items ++ flat_map (λ n. filter (takes (nodes l.page) l.wanted) (below (nodes l.page) n)) (drop l.start-index l.starts) ≡ flat_map (λ n. filter (takes (nodes l.page) l.wanted) (below (nodes l.page) n)) l.starts
