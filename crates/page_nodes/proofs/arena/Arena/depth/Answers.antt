use Rattle.std.proofs.Common.{sym, arith, subst}
use Rattle.page_nodes.specs.Moves.{IsDepth}
use Rattle.page_nodes.specs.Entries.{tree}
use Rattle.page_nodes.specs.Arenas.{nodes_in}
use Rattle.page_nodes.proofs.Upward.{parent_in, has_itself, level_has}
use Rattle.page_nodes.proofs.Walk.{nearer, one_up, one_more_up, depth_small, depth_found, depth_of_body}
use Rattle.page_nodes.proofs.arena.Arena.depth.Goals as goal

pub up-init : goal.up-init
up-init c = record { other = c.if-node-eq-BODY.false; is_in = c.requires; most = λ x ne. omega arith; reached = omega (arith, level_has c.args.node (tree (nodes_in c.args.self.now) c.args.node) (has_itself _ c.args.self.now.sound c.args.node)); positive = omega arith }

pub up-smaller : goal.up-smaller
up-smaller c = nearer _ c.args.self.now.sound _ _ (c.in-Some.ensures.0)

pub overflow_add-depth : goal.overflow_add-depth
overflow_add-depth c = omega (arith, depth_small (nodes_in c.args.self.now) c.args.node c.up.place c.up.depth c.up.invariant.reached)

pub up-preserved : goal.up-preserved
up-preserved c =
    let u = c.in-Some.ensures.0 in
    record {
      other = c.in-Some.ensures.1;
      is_in = parent_in _ c.args.self.now.sound _ _ u;
      most = one_up _ c.args.self.now.sound c.args.node _ _ c.up.depth u c.up.invariant.most;
      reached = one_more_up _ c.args.self.now.sound c.args.node _ _ c.up.depth u c.up.invariant.positive c.up.invariant.reached;
      positive = omega arith;
    }

pub returns : goal.returns
returns c = depth_found _ c.args.self.now.sound c.args.node c.up.place _ c.up.invariant.other c.in_default.ensures c.up.invariant.most c.up.invariant.reached

pub returns-then-node-eq-BODY : goal.returns-then-node-eq-BODY
returns-then-node-eq-BODY c = subst (λ y. IsDepth (nodes_in c.args.self.now) y 0) (sym c.if-node-eq-BODY.true) (depth_of_body _ c.args.self.now.sound)
