-- Bunches in an Array.
use Rattle.std.specs.Prelude.{◌≡◌, ℕ, ◌+◌, ◌*◌, ◌<◌, List, [], Bool, Option, length}
use Rattle.js_tree.specs.Forest.{Forest}
use Rattle.store_cells.specs.declared.value.Value.TheVariants as value
use Rattle.store_cells.specs.Cells.{Cells}
use Rattle.widget_meaning.specs.BunchReads.{exploded}
use Rattle.widget_meaning.specs.Costs.{cost, give, pay, with_counts}
use Rattle.widget_meaning.specs.NativeForms.{numbered_pairs}
use Rattle.widget_meaning.specs.OwnState.{Amounts, State, cell_at, new_array, with_cell}
use Rattle.widget_meaning.specs.Plan.{Plan}
use Rattle.widget_meaning.specs.Values.{Own, Value}
use Rattle.page_tree.specs.declared.page.Page.{Page}
use Rattle.event_loop.specs.declared.around.Loop.{Loop}
use Rattle.js_image.specs.Held.{IsHeld}
use Rattle.js_image.specs.Image.{seen}
use Rattle.native_image.specs.Image.{Outside, beside, image}

-- whether the object with a number is an Array of no elements
abbrev pub IsEmptyArray : State → ℕ → Type 0
IsEmptyArray s n = (n < length s.own.heap) × (cell_at s n ≡ new_array 0 [])

-- a state in which the object with a number is an Array of these elements
abbrev pub filled : ℕ → List Value → State → State
filled n vs s = with_cell s n (new_array (length vs) (numbered_pairs 0 vs))

-- An Array of Bunches was made, and its cell is the next object; what that cost is counted and not said here.
pub record IsExploded (w : ℕ) (s t : Cells) (p : Page) (l : Loop) (ns : List ℕ) (id : ℕ) : Type 0 where
  pub state : (fs : List Forest) (x : Outside) (b : Option Bool) (c : Amounts) → with_counts (image fs x w (beside t p l b)) c ≡ exploded ns (with_counts (image fs x w (beside s p l b)) c)
  pub number : (fs : List Forest) (x : Outside) (b : Option Bool) → seen w t.cells (value.Ref id) ≡ Own (length (image fs x w (beside s p l b)).own.heap)
  pub held : IsHeld w t.cells id

-- what `explode` does once its charge is taken
abbrev pub explode_paid : List ℕ → State → Plan
explode_paid ns s =
    pay (cost 0 (length ns + 1) (3 * length ns) 0) s (λ t. give (Own (length t.own.heap)) (exploded ns t))
