-- An object or array is whole; what holds whatever is answered.
use Rattle.std.proofs.Common.{◌≡◌, ℕ, ◌+◌, List, ◌∷◌, length, subst, Result, Ok, Err, OnErr}
use Rattle.js_tree.specs.Forest.{Forest}
use Rattle.serde_json.specs.Data as json
use Rattle.serde_json.specs.View.{items_view, members_view}
use Rattle.serde_json.specs.declared.value.Value.{Value as Json}
use Rattle.serde_json.proofs.Views.{Entry}
use Rattle.store_cells.specs.declared.value.Value.{Value as StoreValue}
use Rattle.store_cells.specs.Cells.{Cells}
use Rattle.widget_meaning.specs.Values.{Own}
use Rattle.widget_meaning.specs.OwnState.{plain_object}
use Rattle.widget_meaning.specs.JsonValues.{items_at, members_at}
use Rattle.js_image.specs.Image.{Rest, image, seen}
use Rattle.json_text.specs.Building.{Builds, raised}
use Rattle.json_text.proofs.Taking.{array_form}

pub array_whole : (fs : List Forest) (r : Rest) (w : ℕ) (old new : Cells) (v : StoreValue) (xs ys : List Json) → xs ≡ ys
    → image fs r w new ≡ raised (image fs r w old) (array_form (items_at (length (image fs r w old).own.heap + 1) 0 (items_view xs)).0 ∷ (items_at (length (image fs r w old).own.heap + 1) 0 (items_view xs)).1)
    → seen w new.cells v ≡ Own (length (image fs r w old).own.heap) → Builds fs r w old new v (json.array (items_view ys))
array_whole fs r w old new v xs ys same state value = subst (λ (l : List Json). Builds fs r w old new v (json.array (items_view l))) same (record { state = state; value = value })

pub object_whole : (fs : List Forest) (r : Rest) (w : ℕ) (old new : Cells) (v : StoreValue) (es : List Entry)
    → image fs r w new ≡ raised (image fs r w old) (plain_object (members_at (length (image fs r w old).own.heap + 1) (members_view es)).0 ∷ (members_at (length (image fs r w old).own.heap + 1) (members_view es)).1)
    → seen w new.cells v ≡ Own (length (image fs r w old).own.heap) → Builds fs r w old new v (json.object (members_view es))
object_whole fs r w old new v es state value = record { state = state; value = value }

-- what holds whatever is answered
pub on_err : {A E : Type 0} {P : Type 0} (r : Result A E) → P → OnErr r P
on_err (Ok a) p = tt
on_err (Err e) p = p
