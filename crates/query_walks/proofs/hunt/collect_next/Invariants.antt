use Rattle.std.proofs.Common.{◌≡◌, ◌++◌, drop, false}
use Rattle.std.specs.List.{filter}
use Rattle.page_tree.specs.Entries.{at}
use Rattle.page_tree.specs.Pages.{nodes}
use Rattle.query_walks.specs.Finds.{is_tagged}
use Rattle.query_walks.specs.Walks.{is_start, next_ones}
use Rattle.query_walks.proofs.hunt.collect_next.Given as goal

-- what is taken, and what is still to come
abbrev pub invariant-each : goal.invariant-each
invariant-each l = l.found.items ++ filter (is_tagged (nodes l.page) l.tag) (next_ones (nodes l.page) (is_start l.root l.starts) l.met (drop l.place (at (nodes l.page) l.parent).children)) ≡ l.initial.found.items ++ filter (is_tagged (nodes l.page) l.tag) (next_ones (nodes l.page) (is_start l.root l.starts) false (at (nodes l.page) l.parent).children)
