use Rattle.std.proofs.Common.{◌≡◌, ℕ, List, drop}
use Rattle.std.specs.List.{list_any}
use Rattle.store_cells.specs.Cells.{PlainCell}
use Rattle.widget_meaning.specs.Values.{is_object}
use Rattle.js_image.specs.Image.{all_seen}
use Rattle.native_common.proofs.arguments.any_object.Given as goal

abbrev pub invariant-loop-v : goal.invariant-loop-v
invariant-loop-v l = (w : ℕ) (cells : List PlainCell) → list_any is_object (all_seen w cells (drop l.v-index l.vs)) ≡ list_any is_object (all_seen w cells l.vs)
