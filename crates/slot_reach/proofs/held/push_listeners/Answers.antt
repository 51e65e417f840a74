use Rattle.std.proofs.Common.{ℕ, List}
use Rattle.slot_reach.specs.Reads.{ref_at}
use Rattle.slot_reach.proofs.Steps.{past_items, next_items}
use Rattle.slot_reach.proofs.held.push_listeners.Goals as goal

pub each-preserved : goal.each-preserved
each-preserved c =
    next_items (λ (h : List ℕ × ℕ). ref_at c.args.names.now c.args.store.now.cells h.1) c.args.handlers.now c.each.handler-index c.handler-item.result c.args.out.now.items c.each.out.items c.push.new.self.items _ c.each-test.true c.handler-item.is c.each.invariant c.in_ok-reference.ensures c.in_ok-push.ensures.items

pub returns : goal.returns
returns c = past_items (λ (h : List ℕ × ℕ). ref_at c.args.names.now c.args.store.now.cells h.1) c.args.handlers.now c.each.handler-index c.args.out.now.items c.each.out.items c.each-test.false c.each.invariant
