use Rattle.std.proofs.Common.{◌≡◌, ◌++◌, drop}
use Rattle.std.specs.List.{filter}
use Rattle.page_tree.specs.Pages.{nodes}
use Rattle.query_walks.specs.Walks.{below_any}
use Rattle.query_walks.proofs.named.collect_below.Given as goal

-- what is taken, and what is still to come
abbrev pub invariant-each : goal.invariant-each
invariant-each l = l.found.items ++ filter (below_any (nodes l.page) l.starts) (drop l.node-index l.list) ≡ filter (below_any (nodes l.page) l.starts) l.list
