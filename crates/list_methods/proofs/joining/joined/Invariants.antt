use Rattle.std.proofs.Common.{◌≡◌, ℕ, List, take}
use Rattle.std.specs.List.{join_by}
use Rattle.store_cells.specs.Cells.{PlainCell}
use Rattle.widget_meaning.specs.ListNatives.{joined_text}
use Rattle.js_image.specs.Image.{all_seen}
use Rattle.list_methods.proofs.joining.joined.Given as goal

abbrev pub invariant-loop-at : goal.invariant-loop-at
invariant-loop-at l = (w : ℕ) (cells : List PlainCell) → l.units.items ≡ join_by joined_text l.separator (all_seen w cells (take l.at l.values))
