-- The entries of a page, one by one.
use Rattle.std.specs.Prelude.{◌≡◌, ◌≤◌, ◌-◌, ℕ, Bool, IsTrue, List, [], ◌∷◌, length, take, codes, string_bytes, slice_index, nat_eq, nat_le, ◌&&◌, Option, Some, None, option_map, option_and_then, if◌then◌else◌}
use Rattle.std.specs.List.{list_all, flat_map}
use Rattle.std.specs.Str.{bytes_eq}
use Rattle.code_units.specs.Utf8.{units_of}
use Rattle.serde_json.specs.Data.{Data}
use Rattle.serde_json.specs.Find.{get, as_number, as_u64}
use Rattle.manifest_shape.specs.Distinct.{distinct}
use Rattle.json_shapes.specs.Keys.{has_only}
use Rattle.json_shapes.specs.Look.{text_at}
use Rattle.manifest_shape.specs.declared.slot.SlotEntry.{SlotEntry}
use Rattle.manifest_shape.specs.declared.slot.PageEntry.{PageEntry}
use Rattle.manifest_shape.specs.declared.slot.PageEntry.TheVariants.{Html, Slot}

-- a letter from A to Z, as a unit
abbrev pub is_capital_letter : ℕ → Bool
is_capital_letter unit = nat_le 65 unit && nat_le unit 90

-- the units that the name of a slot may have
abbrev pub longest_name : ℕ
longest_name = 32

-- the name of a slot: 1 to 31 letters from A to Z, and one `_`
abbrev pub is_slot_name : List ℕ → Bool
is_slot_name units =
    nat_le 2 (length units) && nat_le (length units) longest_name
    && nat_eq (slice_index units (length units - 1)) 95
    && list_all is_capital_letter (take (length units - 1) units)

-- the fuel that a turn of a slot may have
abbrev pub most_fuel : ℕ
most_fuel = 1000000

-- fuel, where it is given: a whole number from 1 to 1,000,000
abbrev pub IsFuel : Option Data → Option ℕ → Type 0
IsFuel None fuel = fuel ≡ None
IsFuel (Some d) fuel = (n : ℕ) × (fuel ≡ Some n) × (option_and_then as_u64 (as_number d) ≡ Some n) × (1 ≤ n) × (n ≤ most_fuel)

-- the keys of markup
abbrev pub html_keys : List (List ℕ)
html_keys = codes "html" ∷ []

-- markup of the page, as a text
pub record IsHtml (d : Data) (text : List ℕ) : Type 0 where
  pub keys : IsTrue (has_only html_keys d)
  pub html : text_at (codes "html") d ≡ Some text

-- the keys of a slot; in version 2 one may have fuel of its own
abbrev pub slot_keys : ℕ → List (List ℕ)
slot_keys version =
    if nat_eq version 2
    then codes "widget" ∷ codes "file" ∷ codes "fuel" ∷ []
    else codes "widget" ∷ codes "file" ∷ []

-- a slot: its name and its file
pub record IsSlot (version : ℕ) (d : Data) (slot : SlotEntry) : Type 0 where
  pub keys : IsTrue (has_only (slot_keys version) d)
  pub name : option_map units_of (text_at (codes "widget") d) ≡ Some slot.name
  pub letters : IsTrue (is_slot_name slot.name)
  pub file : text_at (codes "file") d ≡ Some (string_bytes slot.file)
  pub fuel : IsFuel (get (codes "fuel") d) slot.fuel

-- an entry of a version, its markup aside
abbrev pub IsEntry : ℕ → Data → PageEntry → Type 0
IsEntry version d (Html text) = IsHtml d (string_bytes text)
IsEntry version d (Slot slot) = IsSlot version d slot

-- the name that an entry gives to a slot, if it does
abbrev pub name_list : Option (List ℕ) → List (List ℕ)
name_list None = []
name_list (Some name) = name ∷ []

-- the name of a slot that stands in an entry
abbrev pub slot_name : Data → Option (List ℕ)
slot_name d = option_map units_of (text_at (codes "widget") d)

-- the names of the slots among the entries
abbrev pub names_in : List Data → List (List ℕ)
names_in entries = flat_map (λ d. name_list (slot_name d)) entries

-- the same of an entry as it was read
abbrev pub entry_names : PageEntry → List (List ℕ)
entry_names (Html text) = []
entry_names (Slot slot) = slot.name ∷ []

-- the slots that a page may have
abbrev pub most_slots : ℕ
most_slots = 16

-- at most 16 slots, no two of one name
abbrev pub are_slots : List (List ℕ) → Bool
are_slots names = nat_le (length names) most_slots && distinct bytes_eq names
