use Rattle.std.proofs.Common.{◌∙◌, sym, ap}
use Rattle.page_tree.specs.Pages.{nodes}
use Rattle.query_grammar.specs.Filters.{has_class}
use Rattle.query_walks.specs.FirstFailed.{fails}
use Rattle.query_walks.specs.Nodes.{look}
use Rattle.query_walks.proofs.FirstFailed.{none_yet, found_there, found_nowhere}
use Rattle.query_walks.proofs.Found.{marks_first, marks_later, marks_enough}
use Rattle.query_walks.proofs.failed.failed_at.Goals as goal

pub fails-requires-clause-found : goal.fails-requires-clause-found
fails-requires-clause-found c = marks_first (has_class (look (nodes c.args.page.now) c.args.node)) c.args.filters.now c.each.i c.index-filters-i.result c.each.left.now c.each-test.true c.index-filters-i.is c.each.invariant.left

pub behind_filter-left-requires : goal.behind_filter-left-requires
behind_filter-left-requires c = marks_enough (has_class (look (nodes c.args.page.now) c.args.node)) c.args.filters.now c.each.i c.index-filters-i.result c.each.left.now c.each-test.true c.index-filters-i.is c.each.invariant.left

pub each-preserved : goal.each-preserved
each-preserved c =
    let t = fails (nodes c.args.page.now) c.args.focus c.args.node in
    record {
      place = none_yet t c.args.filters.now c.each.i c.index-filters-i.result c.each-test.true (ap t (sym c.index-filters-i.is) ∙ sym c.fails.ensures ∙ c.if-fails.false) c.each.invariant.place;
      left = c.behind_filter-left.ensures ∙ marks_later (has_class (look (nodes c.args.page.now) c.args.node)) c.args.filters.now c.each.i c.index-filters-i.result c.each.left.now c.each-test.true c.index-filters-i.is c.each.invariant.left;
    }

pub returns-then-fails-clause-place : goal.returns-then-fails-clause-place
returns-then-fails-clause-place c =
    let t = fails (nodes c.args.page.now) c.args.focus c.args.node in
    found_there t c.args.filters.now c.each.i c.index-filters-i.result c.each-test.true (ap t (sym c.index-filters-i.is) ∙ sym c.fails.ensures ∙ c.if-fails.true) c.each.invariant.place

pub returns-clause-place : goal.returns-clause-place
returns-clause-place c = found_nowhere (fails (nodes c.args.page.now) c.args.focus c.args.node) c.args.filters.now c.each.i c.each-test.false c.each.auto.i-end c.each.invariant.place
