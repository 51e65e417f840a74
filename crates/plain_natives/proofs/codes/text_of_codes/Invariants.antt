use Rattle.std.proofs.Common.{◌≡◌, ◌++◌, ℕ, List, drop, map}
use Rattle.store_cells.specs.Cells.{PlainCell}
use Rattle.widget_meaning.specs.Values.{to_number}
use Rattle.widget_meaning.specs.GlobalNatives.{code_of}
use Rattle.js_image.specs.Image.{all_seen}
use Rattle.plain_natives.proofs.codes.text_of_codes.Given as goal

abbrev pub invariant-loop-v : goal.invariant-loop-v
invariant-loop-v l = (w : ℕ) (cells : List PlainCell) → l.units.items ++ map code_of (map to_number (all_seen w cells (drop l.v-index l.args))) ≡ map code_of (map to_number (all_seen w cells l.args))
