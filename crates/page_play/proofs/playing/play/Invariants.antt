use Rattle.std.proofs.Common.{◌≡◌, map, drop}
use Rattle.trace_reader.specs.Said.{said}
use Rattle.slot_lives.specs.Lives.{swaps_in}
use Rattle.page_play.specs.Playing.{Plays}
use Rattle.page_play.proofs.playing.play.Given as goal

abbrev pub invariant-items : goal.invariant-items
invariant-items l = record {
  plays : Plays l.fn.spec l.fn.swaps.items (map said l.yielded) l.host;
  left : l.left.items ≡ drop (swaps_in (map said l.yielded)) l.fn.swaps.items;
}
