use Rattle.std.proofs.Common.{◌∙◌}
use Rattle.page_play.specs.Swaps.{swap_slots, swap_positions}
use Rattle.page_play.proofs.Finding.{slots_more, positions_more, all_said}
use Rattle.page_play.proofs.findings.find_swaps.Goals as goal

pub items-preserved : goal.items-preserved
items-preserved c = record {
  slots = slots_more c.args.items.now c.items.i c.index-items-i.result c.items-test.true c.index-items-i.is c.items.slots.items c.push_swap.new.slots.items c.items.invariant.slots c.in_ok-push_swap.ensures.slots;
  positions = positions_more c.args.items.now c.items.i c.index-items-i.result c.items-test.true c.index-items-i.is c.items.positions.items c.push_swap.new.positions.items c.items.invariant.positions c.in_ok-push_swap.ensures.positions;
}

pub returns-clause-slots : goal.returns-clause-slots
returns-clause-slots c = c.items.invariant.slots ∙ all_said swap_slots c.args.items.now c.items.i c.items-test.false

pub returns-clause-positions : goal.returns-clause-positions
returns-clause-positions c = c.items.invariant.positions ∙ all_said (swap_positions 0) c.args.items.now c.items.i c.items-test.false
