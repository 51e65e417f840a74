use Rattle.std.proofs.Common.{◌++◌, ap, arith, length, map, sym, ◌<◌, ◌∙◌}
use Rattle.std.proofs.lemmas.List.{take_all}
use Rattle.event_loop.specs.Around.{kept}
use Rattle.page_image.specs.Own.{own_nodes}
use Rattle.page_tree.specs.Pages.{nodes}
use Rattle.slot_reach.specs.Reads.{handler_refs, ref_at}
use Rattle.slot_reach.proofs.Nodes.{more_nodes, own_is}
use Rattle.slot_reach.proofs.held.push_handlers.Goals as goal

pub nodes-preserved : goal.nodes-preserved
nodes-preserved c =
    let cells = c.args.store.now.cells in
    let all = nodes c.args.page.now in
    let within : c.nodes.node < length all = omega (arith, c.nodes-test.true, c.count_nodes-node-end.ensures) in
    more_nodes (λ n. map (λ h. ref_at c.args.names.now cells h.1) (kept c.args.around.now n).handlers) all c.args.w c.nodes.node c.args.out.now.items c.nodes.out.items c.push_at_node.new.out.items within c.nodes.invariant c.in_ok-push_at_node.ensures

pub returns : goal.returns
returns c =
    let cells = c.args.store.now.cells in
    let all = nodes c.args.page.now in
    let refs = handler_refs c.args.names.now cells c.args.around.now in
    c.nodes.invariant ∙ ap (λ l. c.args.out.now.items ++ refs (own_nodes l c.args.w)) (take_all c.nodes.node all (omega (arith, c.nodes-test.false, c.count_nodes-node-end.ensures)))
    ∙ ap (λ l. c.args.out.now.items ++ refs l) (sym (own_is c.args.page.now c.args.w))
