use Rattle.std.proofs.Common.{◌≡◌, ◌++◌, drop, false}
use Rattle.std.specs.List.{filter, flat_map}
use Rattle.page_tree.specs.Entries.{at}
use Rattle.page_tree.specs.Pages.{nodes}
use Rattle.query_walks.specs.Finds.{is_tagged}
use Rattle.query_walks.specs.Walks.{is_start, next_ones}
use Rattle.query_walks.proofs.hunt.collect_all_next.Given as goal

-- what is taken, and what is still to come
abbrev pub invariant-each : goal.invariant-each
invariant-each l = l.found.items ++ flat_map (λ p. filter (is_tagged (nodes l.page) l.tag) (next_ones (nodes l.page) (is_start l.root l.starts) false (at (nodes l.page) p).children)) (drop l.parent-index l.parents) ≡ flat_map (λ p. filter (is_tagged (nodes l.page) l.tag) (next_ones (nodes l.page) (is_start l.root l.starts) false (at (nodes l.page) p).children)) l.parents
