-- What is born with an event.
use Rattle.std.specs.Prelude.{◌≡◌, ℕ, List, [], ◌∷◌, Bool, Option, codes, length}
use Rattle.permitted_table.specs.declared.native.NativeId.TheVariants as natives
use Rattle.js_tree.specs.Forest.{Forest}
use Rattle.store_cells.specs.declared.value.Value.{Value as StoreValue}
use Rattle.store_cells.specs.declared.value.Value.TheVariants as value
use Rattle.store_cells.specs.Cells.{Cells}
use Rattle.widget_meaning.specs.Values.{Value, Undefined, Text, Own}
use Rattle.widget_meaning.specs.OwnState.{Amounts, Cell, Pairs, State, with_new_cell}
use Rattle.widget_meaning.specs.Costs.{sum, with_counts}
use Rattle.widget_meaning.specs.HostTable.{native}
use Rattle.page_tree.specs.declared.page.Page.{Page}
use Rattle.event_loop.specs.declared.around.Loop.{Loop}
use Rattle.js_image.specs.Image.{seen}
use Rattle.native_image.specs.Image.{Outside, beside, image}
use Rattle.native_image.specs.Sound.{IsSound}

-- an object that was paid and made
abbrev pub born : Cell → Amounts → State → State
born c a s = with_new_cell (with_counts s (sum s.own.counts a)) c

-- the pairs of an event object that has no Bunches yet, in the store, by the cell of `bubble`
abbrev pub stored_pairs : List ℕ → StoreValue → ℕ → List (List ℕ × StoreValue)
stored_pairs kind v bubble =
    (codes "type", value.Text kind)
    ∷ (codes "target", value.Undefined)
    ∷ (codes "that", value.Undefined)
    ∷ (codes "value", v)
    ∷ (codes "bubble", value.Ref bubble) ∷ []

-- the same as the widget has them, with these under `target` and `that`
abbrev pub pairs_with : List ℕ → Value → Value → Value → Pairs
pairs_with kind target that v =
    (codes "type", Text kind)
    ∷ (codes "target", target)
    ∷ (codes "that", that)
    ∷ (codes "value", v)
    ∷ (codes "bubble", native natives.Bubble) ∷ []

-- A call changed the state of widget w so, beside every page and loop that are sound.
abbrev pub Changes : ℕ → Cells → Cells → Page → (State → State) → Type 0
Changes w old new p change =
    (fs : List Forest) (x : Outside) (l : Loop) (b : Option Bool) → IsSound w old p l
    → change (image fs x w (beside old p l b)) ≡ image fs x w (beside new p l b)

-- A cell was made as the next object of widget w.
abbrev pub IsNext : ℕ → Cells → Cells → Page → ℕ → Type 0
IsNext w old new p id =
    (fs : List Forest) (x : Outside) (l : Loop) (b : Option Bool) → IsSound w old p l
    → seen w new.cells (value.Ref id) ≡ Own (length (image fs x w (beside old p l b)).own.heap)
