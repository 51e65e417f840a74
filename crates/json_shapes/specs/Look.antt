-- What a JSON value has under a key.
use Rattle.std.specs.Prelude.{ℕ, List, [], ◌∷◌, Option, option_map, option_and_then, position}
use Rattle.std.specs.Str.{bytes_eq}
use Rattle.serde_json.specs.Data.{Data, Items, no_items, item}
use Rattle.serde_json.specs.Find.{get, as_str, as_number, as_u64, as_array}

-- the values of an array
abbrev pub values_in : Items → List Data
values_in no_items = []
values_in (item d ds) = d ∷ values_in ds

-- the values of a value that is an array
abbrev pub listed_in : Data → Option (List Data)
listed_in d = option_map values_in (as_array d)

-- the whole number under a key that is not below 0
abbrev pub number_at : List ℕ → Data → Option ℕ
number_at key d = option_and_then as_u64 (option_and_then as_number (get key d))

-- the text under a key
abbrev pub text_at : List ℕ → Data → Option (List ℕ)
text_at key d = option_and_then as_str (get key d)

-- the list under a key
abbrev pub list_at : List ℕ → Data → Option (List Data)
list_at key d = option_map values_in (option_and_then as_array (get key d))

-- the number of the slot whose name stands under a key; names are ASCII, so their units are their bytes
abbrev pub slot_at : List ℕ → List (List ℕ) → Data → Option ℕ
slot_at key names d = option_and_then (λ text. position (λ name. bytes_eq name text) names) (text_at key d)
