use Rattle.std.proofs.Common.{◌≡◌, ◌++◌, drop}
use Rattle.std.specs.List.{filter}
use Rattle.page_tree.specs.Pages.{nodes}
use Rattle.query_walks.specs.Nodes.{passes}
use Rattle.query_lang.proofs.finder.keep.Given as goal

abbrev pub invariant-each : goal.invariant-each
invariant-each l = l.kept.items ++ filter (passes (nodes l.page) l.focus l.by) (drop l.node-index l.list) ≡ filter (passes (nodes l.page) l.focus l.by) l.list
