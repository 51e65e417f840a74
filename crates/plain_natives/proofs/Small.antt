-- Primitives that are no texts.
use Rattle.std.proofs.Common.{◌≡◌, ℕ, List, refl}
use Rattle.widget_meaning.specs.Values.{to_text}
use Rattle.widget_meaning.specs.OwnState.{State}
use Rattle.widget_meaning.specs.Plan.{charge}
use Rattle.widget_meaning.specs.NativeForms.{give_text}
use Rattle.widget_meaning.specs.GlobalNatives.{string_of}
use Rattle.store_cells.specs.declared.value.Value.{Value}
use Rattle.store_cells.specs.declared.value.Value.TheVariants as value
use Rattle.store_cells.specs.declared.value.Number.TheVariants as number
use Rattle.store_cells.specs.Cells.{PlainCell}
use Rattle.js_image.specs.Image.{seen}

-- the text of a primitive that is none is made
pub other_string : (w : ℕ) (cells : List PlainCell) (v : Value) (d : ℕ) (s : State) → ((t : List ℕ) → v ≡ value.Text t → ⊥) → ((i : ℕ) → v ≡ value.Ref i → ⊥) → string_of (seen w cells v) d s ≡ charge 0 s (give_text 0 (to_text (seen w cells v)) s)
other_string w cells value.Undefined d s a b = refl
other_string w cells value.Null d s a b = refl
other_string w cells (value.Bool x) d s a b = refl
other_string w cells (value.Num number.NaN) d s a b = refl
other_string w cells (value.Num (number.Whole z)) d s a b = refl
other_string w cells (value.Text t) d s a b = absurd (a t refl)
other_string w cells (value.Ref i) d s a b = absurd (b i refl)
