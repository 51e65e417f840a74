use Rattle.std.specs.List.{flat_map}
use Rattle.page_tree.specs.Pages.{nodes, root}
use Rattle.query_walks.specs.Finds.{hunted}
use Rattle.query_walks.proofs.Members.{step_nodes, steps_left}
use Rattle.query_lang.proofs.finder.take_steps.Goals as goal

pub each-preserved : goal.each-preserved
each-preserved c =
    let p = c.args.page.now in
    let o = c.args.owner in
    let s = c.step-item.result in
    record {
      nodes = step_nodes p o c.requires.owner c.args.focus s.filters (flat_map (hunted (nodes p) (root p o) s.hunter) c.deref.result.now) c.in_ok-list-2.list.items c.in_ok-list-2.ensures;
      left = steps_left p o c.args.focus c.args.steps.now c.each.step-index s c.each.list.items c.deref.result.now c.in_ok-list-2.list.items _ c.each-test.true c.step-item.is c.deref.ensures.value c.in_ok-list-2.ensures c.each.invariant.left;
    }
