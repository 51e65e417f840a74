-- An Array of a widget, by its cell and its length.
use Rattle.std.specs.Prelude.{◌≡◌, ℕ, List, Option, None, Some}
use Rattle.js_tree.specs.Forest.{Forest}
use Rattle.store_cells.specs.declared.value.Value.TheVariants as value
use Rattle.store_cells.specs.Cells.{Cells, own_count}
use Rattle.widget_meaning.specs.Values.{Own, E3}
use Rattle.widget_meaning.specs.OwnState.{State, array_length, kind_of}
use Rattle.widget_meaning.specs.Plan.{Plan}
use Rattle.widget_meaning.specs.Costs.{throw}
use Rattle.js_image.specs.Held.{IsHeld}
use Rattle.js_image.specs.Image.{Rest, image, seen}
use Rattle.list_methods.specs.declared.array.OwnArray.{OwnArray}

-- its number among the widget's objects
abbrev pub number : ℕ → Cells → OwnArray → ℕ
number w s a = own_count w s.cells a.cell

-- An Array of the widget, of this length.
pub record IsArray (w : ℕ) (s : Cells) (a : OwnArray) : Type 0 where
  pub held : IsHeld w s.cells a.cell
  pub own : seen w s.cells (value.Ref a.cell) ≡ Own (number w s a)
  pub len : (fs : List Forest) (r : Rest) → array_length (kind_of (image fs r w s) (Own (number w s a))) ≡ Some a.len

-- what is done with the Array that a receiver is; all else throws E3
abbrev pub on_own : ℕ → Cells → Option OwnArray → State → (ℕ → ℕ → Plan) → Plan
on_own w s None t k = throw E3 t
on_own w s (Some a) t k = k (number w s a) a.len
