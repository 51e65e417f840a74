use Rattle.std.proofs.Common.{◌∙◌, sym, ap, length, length-set, map, get_or, arith}
use Rattle.std.proofs.lemmas.List.{take_all}
use Rattle.page_tree.specs.Pages.{nodes}
use Rattle.query_grammar.specs.Filters.{has_class}
use Rattle.query_grammar.specs.Finds.{has_number}
use Rattle.query_walks.specs.FirstFailed.{fails, failed_at}
use Rattle.query_walks.specs.Nodes.{look}
use Rattle.query_walks.proofs.Downward.{itself}
use Rattle.query_walks.proofs.FirstFailed.{marks_more, position_within}
use Rattle.query_walks.proofs.Members.{node_at}
use Rattle.query_walks.proofs.failed.mark_each.Goals as goal

pub look_up-requires-clause-node : goal.look_up-requires-clause-node
look_up-requires-clause-node c = node_at c.args.page.now c.args.list.now c.each.node-index 0 c.requires.nodes c.each-test.true

pub look_up-requires-clause-found : goal.look_up-requires-clause-found
look_up-requires-clause-found c = c.each.invariant.found ∙ ap (map (has_class (look (nodes c.args.page.now) c.each.before))) (sym c.classes-in-each.ensures)

pub mark_failed-requires-clause-node : goal.mark_failed-requires-clause-node
mark_failed-requires-clause-node c = node_at c.args.page.now c.args.list.now c.each.node-index 0 c.requires.nodes c.each-test.true

pub each-preserved : goal.each-preserved
each-preserved c =
    let k = nodes c.args.page.now in
    let fs = c.args.filters.now in
    let x = get_or c.args.list.now c.each.node-index 0 in
    record {
      node = node_at c.args.page.now c.args.list.now c.each.node-index 0 c.requires.nodes c.each-test.true;
      found = c.in_ok-look_up.ensures ∙ ap (map (has_class (look k x))) c.classes-in-each.ensures;
      long = ap length c.mark_failed.ensures ∙ length-set _ _ _ ∙ c.each.invariant.long;
      marked = marks_more (failed_at k c.args.focus fs) c.args.list.now c.each.node-index x c.each.failed.items _ c.each-test.true (itself c.args.list.now c.each.node-index c.each-test.true)
          (omega (arith, position_within (fails k c.args.focus x) fs, c.each.invariant.long)) c.mark_failed.ensures c.each.invariant.marked;
    }

pub returns-clause-marked : goal.returns-clause-marked
returns-clause-marked c = λ n h. c.each.invariant.marked n (ap (λ l. has_number l n) (take_all c.each.node-index c.args.list.now c.each-test.false) ∙ h)
