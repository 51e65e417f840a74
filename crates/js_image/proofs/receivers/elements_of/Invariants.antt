use Rattle.std.proofs.Common.{◌≡◌, map}
use Rattle.std.specs.List.{range_with_len}
use Rattle.js_image.specs.Elements.{stored_element}
use Rattle.js_image.proofs.receivers.elements_of.Given as goal

abbrev pub invariant-loop-at : goal.invariant-loop-at
invariant-loop-at l = l.values.items ≡ map (stored_element l.store.cells l.base) (range_with_len 0 l.at)
