use Rattle.std.proofs.Common.{sym, ◌∙◌, inl}
use Rattle.page_tree.specs.Pages.{nodes}
use Rattle.page_nodes.proofs.Upward.{parent_in}
use Rattle.page_nodes.proofs.Walk.{nearer}
use Rattle.query_walks.proofs.Downward.{sound}
use Rattle.query_walks.proofs.Marked.{still_there, either_there, closed_on, closed_top, nodes_on, tops_on, tops_top}
use Rattle.query_walks.proofs.order.mark_up.Goals as goal

pub up-preserved : goal.up-preserved
up-preserved c =
    let u = sym c.parent.ensures ∙ c.in-Some.is in
    record {
      is_in = parent_in (nodes c.args.page.now) (sound c.args.page.now) _ _ u;
      closed = closed_on c.up.above c.add.new.self c.up.place c.in_ok-add.field-0 c.in_ok-add.ensures c.args.page.now c.in-Some.parent u c.up.invariant.closed;
      nodes = nodes_on c.up.above c.add.new.self c.up.place c.in_ok-add.field-0 c.in_ok-add.ensures c.args.page.now c.up.invariant.is_in c.up.invariant.nodes;
      tops = tops_on c.up.above c.add.new.self c.up.place c.in_ok-add.field-0 c.in_ok-add.ensures c.args.page.now c.up.tops c.in-Some.parent u c.up.invariant.tops;
      node = inl (either_there c.up.above c.add.new.self c.up.place c.in_ok-add.field-0 c.in_ok-add.ensures c.args.node c.up.invariant.node);
      more = λ n h. still_there c.up.above c.add.new.self c.up.place c.in_ok-add.field-0 c.in_ok-add.ensures n (c.up.invariant.more n h);
    }

pub up-smaller : goal.up-smaller
up-smaller c = nearer (nodes c.args.page.now) (sound c.args.page.now) c.up.place c.in-Some.parent (sym c.parent.ensures ∙ c.in-Some.is)

pub returns-in-None-clause-closed : goal.returns-in-None-clause-closed
returns-in-None-clause-closed c = closed_top c.up.above c.add.new.self c.up.place c.in_ok-add.field-0 c.in_ok-add.ensures c.args.page.now (sym c.parent.ensures ∙ c.in-None.is) c.up.invariant.closed

pub returns-in-None-clause-nodes : goal.returns-in-None-clause-nodes
returns-in-None-clause-nodes c = nodes_on c.up.above c.add.new.self c.up.place c.in_ok-add.field-0 c.in_ok-add.ensures c.args.page.now c.up.invariant.is_in c.up.invariant.nodes

pub returns-in-None-clause-tops : goal.returns-in-None-clause-tops
returns-in-None-clause-tops c = tops_top c.up.above c.add.new.self c.up.place c.in_ok-add.field-0 c.in_ok-add.ensures c.args.page.now c.up.tops c.add-in-None.new.self (sym c.parent.ensures ∙ c.in-None.is) c.in_ok-add-in-None.ensures c.up.invariant.tops

pub returns-in-None-clause-node : goal.returns-in-None-clause-node
returns-in-None-clause-node c = either_there c.up.above c.add.new.self c.up.place c.in_ok-add.field-0 c.in_ok-add.ensures c.args.node c.up.invariant.node

pub returns-in-None-clause-more : goal.returns-in-None-clause-more
returns-in-None-clause-more c = λ n h. still_there c.up.above c.add.new.self c.up.place c.in_ok-add.field-0 c.in_ok-add.ensures n (c.up.invariant.more n h)
