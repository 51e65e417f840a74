-- Elements with what they are sorted by.
use Rattle.std.specs.Prelude.{◌≡◌, ℕ, Bool, true, false, List}
use Rattle.store_cells.specs.Cells.{PlainCell}
use Rattle.widget_meaning.specs.Values.{Value, Undefined}
use Rattle.widget_meaning.specs.ListChanges.{is_key_before, sort_key}
use Rattle.js_image.specs.Image.{seen}
use Rattle.list_methods.specs.declared.sorting.Keyed.{Keyed}

-- whether an element comes before another, by their keys
abbrev pub comes_before : Keyed → Keyed → Bool
comes_before a b = is_key_before a.key b.key

-- the key of an element is its text, and undefined has none
abbrev pub IsKeyed : Keyed → Type 0
IsKeyed k = (w : ℕ) (cells : List PlainCell) → k.key ≡ sort_key (seen w cells k.value)

-- whether an argument asks for an order: one that is not undefined
abbrev pub has_order : Value → Bool
has_order Undefined = false
has_order _ = true
