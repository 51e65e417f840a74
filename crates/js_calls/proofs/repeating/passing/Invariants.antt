use Rattle.std.proofs.Common.{◌≡◌, ℕ, List, take}
use Rattle.store_cells.specs.Cells.{PlainCell}
use Rattle.widget_meaning.specs.ListNatives.{kept}
use Rattle.js_image.specs.Image.{all_seen}
use Rattle.js_image.specs.Held.{AreFine}
use Rattle.js_calls.proofs.repeating.passing.Given as goal

abbrev pub invariant-items : goal.invariant-items
invariant-items l = record {
  seen : (w : ℕ) (cells : List PlainCell) → all_seen w cells l.kept.items ≡ kept (take l.i (all_seen w cells l.items.items)) (all_seen w cells l.results.items);
  fine : (w : ℕ) (cells : List PlainCell) → AreFine w cells l.items.items → AreFine w cells l.kept.items;
}
