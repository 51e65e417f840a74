-- Whose cell a reference tells.
use Rattle.std.specs.Prelude.{◌≡◌, ℕ, List, Option, None, Some, true, slice_index_or}
use Rattle.store_cells.specs.Cells.{PlainCell, own_count}
use Rattle.object_store.specs.Owned.{visible_at}

-- At this place stands the visible cell with this number of a widget with this name.
pub record TellsCell (names : List (Option (List ℕ))) (cells : List PlainCell) (i : ℕ) (name : List ℕ) (number : ℕ) : Type 0 where
  pub widget : ℕ
  pub named : slice_index_or names widget None ≡ Some name
  pub visible : visible_at widget cells i ≡ true
  pub number_is : number ≡ own_count widget cells i
