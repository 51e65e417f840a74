use Rattle.std.proofs.Common.{◌≡◌, map, take}
use Rattle.trace_reader.specs.Said.{said}
use Rattle.page_play.specs.Swaps.{swap_slots, swap_positions}
use Rattle.page_play.proofs.findings.find_swaps.Given as goal

abbrev pub invariant-items : goal.invariant-items
invariant-items l = record {
  slots : l.slots.items ≡ swap_slots (map said (take l.i l.items));
  positions : l.positions.items ≡ swap_positions 0 (map said (take l.i l.items));
}
