use Rattle.std.proofs.Common.{◌≡◌, ℕ, ◌+◌, List, drop, length}
use Rattle.std.specs.List.{flat_map}
use Rattle.store_cells.specs.Cells.{PlainCell}
use Rattle.widget_meaning.specs.Values.{to_text}
use Rattle.js_image.specs.Image.{all_seen}
use Rattle.native_common.specs.Numbers.{counted}
use Rattle.text_methods.proofs.joining.texts_len.Given as goal

abbrev pub invariant-loop-v : goal.invariant-loop-v
invariant-loop-v l = record {
  small : l.n ≡ counted l.n;
  rest : (w : ℕ) (cells : List PlainCell) → counted (l.n + length (flat_map to_text (all_seen w cells (drop l.v-index l.args)))) ≡ counted (length (flat_map to_text (all_seen w cells l.args)));
}
