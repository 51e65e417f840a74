use Rattle.std.proofs.Common.{◌≡◌, ℕ, List, drop, ◌++◌}
use Rattle.std.specs.List.{flat_map}
use Rattle.store_cells.specs.Cells.{PlainCell}
use Rattle.widget_meaning.specs.Values.{to_text}
use Rattle.js_image.specs.Image.{all_seen}
use Rattle.text_methods.proofs.joining.joined.Given as goal

abbrev pub invariant-loop-v : goal.invariant-loop-v
invariant-loop-v l = (w : ℕ) (cells : List PlainCell) → l.units.items ++ flat_map to_text (all_seen w cells (drop l.v-index l.args)) ≡ l.t ++ flat_map to_text (all_seen w cells l.args)
