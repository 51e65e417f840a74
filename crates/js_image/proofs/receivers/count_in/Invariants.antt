use Rattle.std.proofs.Common.{◌≡◌, ◌≤◌, filter, length}
use Rattle.std.specs.List.{range_with_len}
use Rattle.js_image.specs.Elements.{is_stored}
use Rattle.js_image.proofs.receivers.count_in.Given as goal

abbrev pub invariant-loop-at : goal.invariant-loop-at
invariant-loop-at l = (l.count ≡ length (filter (is_stored l.store.cells l.cell) (range_with_len 0 l.at))) × (l.count ≤ l.at)
