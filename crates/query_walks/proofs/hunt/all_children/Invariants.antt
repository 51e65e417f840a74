use Rattle.std.proofs.Common.{◌≡◌, ◌++◌, drop}
use Rattle.std.specs.List.{filter, flat_map}
use Rattle.page_tree.specs.Entries.{at}
use Rattle.page_tree.specs.Pages.{nodes}
use Rattle.query_walks.specs.Walks.{takes}
use Rattle.query_walks.proofs.hunt.all_children.Given as goal

-- what is taken, and what is still to come
abbrev pub invariant-each : goal.invariant-each
invariant-each l = l.found.items ++ flat_map (λ n. filter (takes (nodes l.page) l.wanted) (at (nodes l.page) n).children) (drop l.start-index l.starts) ≡ flat_map (λ n. filter (takes (nodes l.page) l.wanted) (at (nodes l.page) n).children) l.starts
