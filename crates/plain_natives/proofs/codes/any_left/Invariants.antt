use Rattle.std.proofs.Common.{◌≡◌, ℕ, List, drop, map}
use Rattle.std.specs.List.{list_any}
use Rattle.store_cells.specs.Cells.{PlainCell}
use Rattle.widget_meaning.specs.Values.{to_number}
use Rattle.widget_meaning.specs.GlobalNatives.{has_left}
use Rattle.js_image.specs.Image.{all_seen}
use Rattle.plain_natives.proofs.codes.any_left.Given as goal

abbrev pub invariant-loop-v : goal.invariant-loop-v
invariant-loop-v l = (w : ℕ) (cells : List PlainCell) → list_any has_left (map to_number (all_seen w cells (drop l.v-index l.args))) ≡ list_any has_left (map to_number (all_seen w cells l.args))
