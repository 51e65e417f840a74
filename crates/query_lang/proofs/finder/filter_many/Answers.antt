use Rattle.std.proofs.Common.{◌≡◌, ◌<◌, ◌∙◌, ◌||◌, false, sym, ap, subst, get_or, length}
use Rattle.page_tree.specs.Pages.{nodes}
use Rattle.query_walks.specs.FirstFailed.{is_on_list}
use Rattle.query_walks.proofs.FirstFailed.{not_needed, still_marked, passed_one}
use Rattle.query_walks.proofs.Members.{filter_nodes, filter_left}
use Rattle.query_lang.proofs.finder.filter_many.Goals as goal

pub filter_needed-requires-clause-all : goal.filter_needed-requires-clause-all
filter_needed-requires-clause-all c =
    let fs = c.args.filters.now in
    let same = c.filters-filter-items.ensures in
    let lt : c.each.i < length fs = subst (λ l. c.each.i < length l) same c.each-test.true in
    let f = c.filter-item.result in
    let is : f ≡ get_or fs c.each.i f = c.filter-item.is ∙ ap (λ l. get_or l c.each.i f) same in
    λ h. not_needed (nodes c.args.page.now) c.args.focus fs c.in_ok-failed.failed.items c.each.i lt c.each.kept.items c.each.invariant.marked c.each.invariant.passed f is
    (ap (λ l. is_on_list f || get_or l c.each.i false) (sym c.deref-in-each.ensures.value) ∙ sym c.is_needed-needed.ensures ∙ h)

pub each-preserved : goal.each-preserved
each-preserved c =
    let k = nodes c.args.page.now in
    let fs = c.args.filters.now in
    let same = c.filters-filter-items.ensures in
    let lt : c.each.i < length fs = subst (λ l. c.each.i < length l) same c.each-test.true in
    let f = c.filter-item.result in
    let is : f ≡ get_or fs c.each.i f = c.filter-item.is ∙ ap (λ l. get_or l c.each.i f) same in
    let marks = c.in_ok-failed.failed.items in
    let kept = c.each.kept.items in
    let list = c.in_ok-kept.kept.items in
    let before = c.each.invariant in
    record {
      are_nodes = filter_nodes c.args.page.now c.args.focus f kept list before.are_nodes c.in_ok-kept.ensures;
      marked = still_marked k c.args.focus fs marks c.each.i lt kept before.marked before.passed f list c.in_ok-kept.ensures;
      passed = passed_one k c.args.focus fs marks c.each.i lt kept before.marked before.passed f list c.in_ok-kept.ensures is;
      left = filter_left k c.args.focus fs c.each.i f kept list _ lt is c.in_ok-kept.ensures before.left;
    }
