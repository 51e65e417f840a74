use Rattle.std.proofs.Common.{sym, subst}
use Rattle.page_tree.specs.Pages.{nodes}
use Rattle.query_grammar.specs.Spelled.{AreFilters}
use Rattle.query_walks.specs.Nodes.{look}
use Rattle.query_walks.proofs.Members.{filter_nodes}
use Rattle.query_walks.proofs.Thinned.{first_tried, none_tried, fewer_units}
use Rattle.query_lang.proofs.finder.filter_few.Goals as goal

pub behind-rest-requires : goal.behind-rest-requires
behind-rest-requires c = c.in-Some.ensures.first.inside

pub each-smaller : goal.each-smaller
each-smaller c = fewer_units c.each.rest.now c.in-Some.filter c.in-Some.end _ c.in-Some.ensures.first c.behind-rest.ensures

pub each-preserved : goal.each-preserved
each-preserved c = record {
  are_nodes = filter_nodes c.args.page.now c.args.focus c.in-Some.filter c.each.kept.items _ c.each.invariant.are_nodes c.in_ok-kept.ensures;
  filters = subst AreFilters (sym c.behind-rest.ensures) c.in-Some.ensures.first.others;
  left = first_tried (look (nodes c.args.page.now)) c.args.focus c.each.rest.now c.in-Some.filter c.in-Some.end _ c.each.kept.items _ _ c.in-Some.ensures.first c.behind-rest.ensures c.in_ok-kept.ensures c.each.invariant.left;
}

pub returns : goal.returns
returns c = none_tried (look (nodes c.args.page.now)) c.args.focus c.each.rest.now c.each.kept.items _ c.in_default.ensures.first c.each.invariant.left
