use Rattle.std.proofs.Common.{◌≡◌, sym, ◌∙◌, ap, ⊎_elim, subst, true, ◌||◌, eqb, get_or}
use Rattle.page_nodes.proofs.Lists.{ok_equal}
use Rattle.query_grammar.specs.Finds.{has_number}
use Rattle.query_walks.specs.Walks.{AreTops, RiseFrom}
use Rattle.query_walks.proofs.Downward.{itself}
use Rattle.query_walks.proofs.Ordered.{has_added, misses_none, all_trees}
use Rattle.query_walks.proofs.Members.{node_at}
use Rattle.query_walks.proofs.Marked.{was_there, marks_more, marks_all, tops_nodes}
use Rattle.query_walks.proofs.order.in_order.Goals as goal

pub mark_up-requires-clause-node : goal.mark_up-requires-clause-node
mark_up-requires-clause-node c = node_at c.args.page.now c.args.found.now c.each.node-index 0 c.requires.nodes c.each-test.true

pub each-preserved : goal.each-preserved
each-preserved c =
    let x = get_or c.args.found.now c.each.node-index 0 in
    record {
      marks = λ n. has_added c.each.marks c.add.new.self x c.in_ok-add.field-0 c.in_ok-add.ensures n ∙ ap (λ b. b || eqb n x) (c.each.invariant.marks n) ∙ marks_more c.args.found.now c.each.node-index x c.each-test.true (itself c.args.found.now c.each.node-index c.each-test.true) n;
      more = λ n h. ⊎_elim
          (λ o. c.in_ok-mark_up.ensures.more n (c.each.invariant.more n o))
          (λ o. subst (λ y. has_number c.mark_up.new.above y ≡ true) (sym o) c.in_ok-mark_up.ensures.node)
          (was_there c.each.marks c.add.new.self x c.in_ok-add.field-0 c.in_ok-add.ensures n h);
      closed = c.in_ok-mark_up.ensures.closed;
      nodes = c.in_ok-mark_up.ensures.nodes;
      tops = c.in_ok-mark_up.ensures.tops;
    }

pub walk_trees-requires-clause-all : goal.walk_trees-requires-clause-all
walk_trees-requires-clause-all c = misses_none c.args.page.now c.each.marks c.each.above c.each.invariant.closed c.each.invariant.more

pub returns : goal.returns
returns c =
    let p = c.args.page.now in
    let e = c.deref.ensures.value ∙ c.in_ok-tops.ensures.nodes in
    ok_equal c.walk_trees.result (λ v. v.items) _ _
    (all_trees p c.args.owner c.args.found.now c.each.marks c.each.above c.deref.result.now
    (marks_all c.args.found.now c.each.marks c.each.node-index c.each-test.false c.each.invariant.marks)
    (misses_none p c.each.marks c.each.above c.each.invariant.closed c.each.invariant.more)
    (tops_nodes p c.each.above c.each.tops c.deref.result.now e c.each.invariant.nodes c.each.invariant.tops)
    (subst (λ l. AreTops p c.each.above l) (sym e) c.each.invariant.tops)
    (subst (λ l. RiseFrom 0 l) (sym c.deref.ensures.value) c.in_ok-tops.ensures.rising))
    c.walk_trees.ensures
