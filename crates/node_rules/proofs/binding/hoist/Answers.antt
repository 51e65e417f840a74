use Rattle.std.proofs.Common.{◌≡◌, ◌++◌, arith, sym, subst, ap, ◌∙◌}
use Rattle.js_tree.specs.Trees.{trees}
use Rattle.node_rules.proofs.Hoisting.{StmtsIn, all_in, hoist_start, hoist_loop, hoist_load, hoist_in, no_declares, taken_in}
use Rattle.node_rules.proofs.binding.hoist.Goals as goal

pub left-init : goal.left-init
left-init c =
    let f = trees c.args.tree.now in
    let e : c.extend_from_slice.new.self.items ≡ c.args.body.now = c.in_ok-extend_from_slice.ensures.items ∙ ap (λ l. l ++ c.args.body.now) c.new-left.ensures.items in
    record {
      inside = subst (StmtsIn f) (sym e) (all_in f c.args.body.now c.requires);
      declared = λ q. hoist_start f q _ _ _ e;
    }

pub stmt-node-requires : goal.stmt-node-requires
stmt-node-requires c = taken_in (trees c.args.tree.now) _ _ _ c.in-Some.ensures.items c.left.invariant.inside

pub left-smaller : goal.left-smaller
left-smaller c = hoist_load (trees c.args.tree.now) c.stmt-node.result.now _ _ c.in-Some.id c.stmt-node.ensures.same _ _ _ c.in-Some.ensures.items c.in_ok-add_blocks.ensures

pub left-preserved : goal.left-preserved
left-preserved c = record {
  inside = hoist_in (trees c.args.tree.now) c.stmt-node.result.now c.in-Some.id _ _ _ c.in-Some.ensures.items c.in_ok-add_blocks.ensures c.left.invariant.inside c.stmt-node.ensures.parts;
  declared = λ q. hoist_loop (trees c.args.tree.now) c.stmt-node.result.now _ _ c.in-Some.id c.stmt-node.ensures.same q _ _ _ _ _ _ c.in-Some.ensures.items c.in_ok-add_blocks.ensures c.in_ok-add_own.ensures (c.left.invariant.declared q);
}

pub returns : goal.returns
returns c = λ q. no_declares (trees c.args.tree.now) _ _ _ q (c.left.invariant.declared q) (omega (arith, c.in_default.ensures.cases))
