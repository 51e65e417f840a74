use Rattle.std.proofs.Common.{◌≤◌, ◌∙◌, sym, arith, eqb-true, length}
use Rattle.page_tree.specs.Pages.{nodes}
use Rattle.query_walks.specs.Nodes.{look}
use Rattle.query_walks.proofs.Thinned.{nothing_left}
use Rattle.query_lang.proofs.finder.filter_all.Goals as goal

pub returns-then-is_empty : goal.returns-then-is_empty
returns-then-is_empty c =
    let none : length c.args.list.items ≤ 0 = omega (arith, c.args.list.ok.0, eqb-true _ _ (sym c.is_empty.ensures ∙ c.if-is_empty.true)) in
    sym (nothing_left (look (nodes c.args.page.now)) c.args.focus c.args.filters.now c.args.list.items none)
