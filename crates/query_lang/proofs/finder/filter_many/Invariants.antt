use Rattle.std.proofs.Common.{◌≡◌, ◌≤◌, ℕ, true, false, drop, get_or}
use Rattle.page_tree.specs.Pages.{nodes}
use Rattle.query_grammar.specs.Finds.{has_number}
use Rattle.query_walks.specs.Finds.{all_filtered}
use Rattle.query_walks.specs.FirstFailed.{failed_at}
use Rattle.query_walks.specs.Walks.{AreNodes}
use Rattle.query_lang.proofs.finder.filter_many.Given as goal

-- what is left was in the list, and passed each filter before this one
abbrev pub invariant-each : goal.invariant-each
invariant-each l = record {
  are_nodes : AreNodes l.page l.kept.items;
  marked : (n : ℕ) → has_number l.kept.items n ≡ true → get_or l.failed.items (failed_at (nodes l.page) l.focus l.filters n) false ≡ true;
  passed : (n : ℕ) → has_number l.kept.items n ≡ true → l.i ≤ failed_at (nodes l.page) l.focus l.filters n;
  left : all_filtered (nodes l.page) l.focus (drop l.i l.filters) l.kept.items ≡ all_filtered (nodes l.page) l.focus l.filters l.initial.kept.items;
}
