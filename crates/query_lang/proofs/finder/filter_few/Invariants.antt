use Rattle.std.proofs.Common.{◌≡◌, length}
use Rattle.page_tree.specs.Pages.{nodes}
use Rattle.query_grammar.specs.Spelled.{filters_of, AreFilters}
use Rattle.query_walks.specs.Finds.{all_filtered}
use Rattle.query_walks.specs.Walks.{AreNodes}
use Rattle.query_lang.proofs.finder.filter_few.Given as goal

abbrev pub invariant-each : goal.invariant-each
invariant-each l = record {
  are_nodes : AreNodes l.page l.kept.items;
  filters : AreFilters l.rest;
  left : all_filtered (nodes l.page) l.focus (filters_of l.rest) l.kept.items ≡ all_filtered (nodes l.page) l.focus (filters_of l.units) l.initial.kept.items;
}

abbrev pub decreases-each : goal.decreases-each
decreases-each l = length l.rest
