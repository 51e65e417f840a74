use Rattle.std.proofs.Common.{◌≡◌, ◌+◌, drop, map}
use Rattle.std.specs.List.{position_or_len}
use Rattle.page_tree.specs.Pages.{nodes}
use Rattle.query_grammar.specs.Filters.{has_class}
use Rattle.query_walks.specs.Classes.{class_words}
use Rattle.query_walks.specs.FirstFailed.{fails}
use Rattle.query_walks.specs.Nodes.{look}
use Rattle.query_walks.proofs.failed.failed_at.Given as goal

-- none before this place is failed, and the marks of those before it are gone
abbrev pub invariant-each : goal.invariant-each
invariant-each l = record {
  place : position_or_len (fails (nodes l.page) l.focus l.node) l.filters ≡ l.i + position_or_len (fails (nodes l.page) l.focus l.node) (drop l.i l.filters);
  left : l.left ≡ map (has_class (look (nodes l.page) l.node)) (class_words (drop l.i l.filters));
}
