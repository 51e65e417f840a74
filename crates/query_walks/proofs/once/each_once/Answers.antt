use Rattle.std.proofs.Common.{◌∙◌, ap}
use Rattle.query_walks.specs.Thinned.{is_tried, seen_after}
use Rattle.query_walks.proofs.Thinned.{thins_more, thins_done, thins_out}
use Rattle.query_walks.proofs.once.each_once.Goals as goal

pub returns-then-most-eq0 : goal.returns-then-most-eq0
returns-then-most-eq0 c = thins_out _ _ _ _ _ _ _ c.filters.invariant c.if-most-eq0.true

pub front-requires : goal.front-requires
front-requires c = c.in-Some.ensures.first.inside

pub filters-smaller : goal.filters-smaller
filters-smaller c = c.behind_alike-rest.ensures.fewer

pub filters-preserved : goal.filters-preserved
filters-preserved c =
    thins_more _ _ _ _ _ _ _ c.in-Some.filter c.in-Some.end _ _ _ _ _ _ c.filters.invariant c.in-Some.ensures.first c.behind_alike-rest.ensures c.in_ok-tried.ensures.classes
    (c.in_ok-tried.ensures.seen ∙ ap (seen_after c.in-Some.filter c.filters.seen.keys) c.front.ensures)
    (c.in_ok-tried.ensures.tried ∙ ap (is_tried c.in-Some.filter c.filters.most c.filters.classes.keys c.filters.seen.keys) c.front.ensures)
    c.in_ok-keep_one.ensures c.most_left-most.ensures

pub returns : goal.returns
returns c = thins_done _ _ _ _ _ _ _ c.filters.invariant c.in_default.ensures.first
