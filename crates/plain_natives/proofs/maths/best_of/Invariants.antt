use Rattle.std.proofs.Common.{◌≡◌, ℕ, List, drop, map}
use Rattle.std.specs.List.{fold}
use Rattle.code_units.specs.declared.whole.WholeRead.TheVariants as read
use Rattle.store_cells.specs.Cells.{PlainCell}
use Rattle.widget_meaning.specs.Values.{to_number}
use Rattle.widget_meaning.specs.Operators.{of_numbers}
use Rattle.js_image.specs.Image.{all_seen}
use Rattle.plain_natives.specs.Choices.{better}
use Rattle.plain_natives.proofs.maths.best_of.Given as goal

abbrev pub invariant-loop-v : goal.invariant-loop-v
invariant-loop-v l = (w : ℕ) (cells : List PlainCell) →
    fold (of_numbers read.Left read.NotNumber (λ x y. read.Whole (better l.max x y))) l.found (map to_number (all_seen w cells (drop l.v-index l.rest)))
    ≡ fold (of_numbers read.Left read.NotNumber (λ x y. read.Whole (better l.max x y))) l.fn.first (map to_number (all_seen w cells l.rest))
