use Rattle.std.proofs.Common.{◌≡◌, ℕ, ◌+◌, List, drop, sum_by}
use Rattle.store_cells.specs.Cells.{PlainCell}
use Rattle.widget_meaning.specs.GlobalNatives.{units_read}
use Rattle.js_image.specs.Image.{all_seen}
use Rattle.native_common.specs.Numbers.{counted}
use Rattle.native_common.proofs.arguments.all_units_read.Given as goal

abbrev pub invariant-loop-v : goal.invariant-loop-v
invariant-loop-v l = record {
  small : l.n ≡ counted l.n;
  rest : (w : ℕ) (cells : List PlainCell) → counted (l.n + sum_by units_read (all_seen w cells (drop l.v-index l.vs))) ≡ counted (sum_by units_read (all_seen w cells l.vs));
}
