use Rattle.std.proofs.Common.{ap}
use Rattle.page_nodes.proofs.Lists.{ok_equal}
use Rattle.query_grammar.specs.Steps.{Step}
use Rattle.query_walks.proofs.Members.{in_order_nodes, step_same}
use Rattle.query_lang.proofs.finder.take_step.Goals as goal

pub filter_all-requires : goal.filter_all-requires
filter_all-requires c = in_order_nodes c.args.page.now c.args.owner c.requires.owner _ c.in_ok-list.list.items c.in_ok-list.ensures

pub returns : goal.returns
returns c = ok_equal c.filter_all.result (λ v. v.items) _ _
    (step_same c.args.page.now c.args.owner c.args.focus c.step.inside.hunter c.step.inside.filters c.args.step.now c.args.starts.now c.in_ok-list.list.items
    (ap (λ (s : Step). s.hunter) c.step.view_is)
    (ap (λ (s : Step). s.filters) c.step.view_is)
    c.in_ok-list.ensures)
    c.filter_all.ensures
