use Rattle.std.proofs.Common.{◌≡◌, ◌++◌, drop}
use Rattle.std.specs.List.{filter}
use Rattle.page_tree.specs.Entries.{at}
use Rattle.page_tree.specs.Pages.{nodes}
use Rattle.query_walks.specs.Walks.{takes}
use Rattle.query_walks.proofs.wanted.Wanted.collect_children.Given as goal

-- what is taken, and what is still to come
abbrev pub invariant-each : goal.invariant-each
invariant-each l = l.found.items ++ filter (takes (nodes l.page) l.self) (drop l.place (at (nodes l.page) l.node).children) ≡ l.initial.found.items ++ filter (takes (nodes l.page) l.self) (at (nodes l.page) l.node).children
