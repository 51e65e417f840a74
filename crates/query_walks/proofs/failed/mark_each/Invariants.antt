use Rattle.std.proofs.Common.{◌≡◌, ◌+◌, ◌<◌, ℕ, true, false, length, take, map, get_or}
use Rattle.page_tree.specs.Pages.{nodes}
use Rattle.query_grammar.specs.Filters.{has_class}
use Rattle.query_grammar.specs.Finds.{has_number}
use Rattle.query_walks.specs.Classes.{class_words}
use Rattle.query_walks.specs.FirstFailed.{failed_at}
use Rattle.query_walks.specs.Nodes.{look}
use Rattle.query_walks.proofs.failed.mark_each.Given as goal

-- the places of the nodes before this one are marked, and the words of the class of the last one are looked up
abbrev pub invariant-each : goal.invariant-each
invariant-each l = record {
  node : l.before < length (nodes l.page);
  found : l.found.items ≡ map (has_class (look (nodes l.page) l.before)) (class_words l.filters);
  long : length l.failed.items ≡ length l.filters + 1;
  marked : (n : ℕ) → has_number (take l.node-index l.list) n ≡ true → get_or l.failed.items (failed_at (nodes l.page) l.focus l.filters n) false ≡ true;
}
