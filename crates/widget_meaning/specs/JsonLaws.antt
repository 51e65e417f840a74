-- Laws of JSON: the text that is written for a value is that of its tree, and is read back as that tree.
use Rattle.std.specs.Prelude.{◌≡◌, ℕ, zero, suc, ◌+◌, ◌<◌, ℤ, pos, negsuc, unsigned_abs, List, [], ◌∷◌, Option, Some, None, option_map, option_and_then, slice_index, ⊤}
use Rattle.std.specs.List.{filter}
use Rattle.code_units.specs.Utf8.{utf8_of}
use Rattle.code_units.specs.Permitted.{is_permitted}
use Rattle.serde_json.specs.Data as json
use Rattle.serde_json.specs.Written.{compact_text}
use Rattle.widget_meaning.specs.Limits.{past_numbers, past_units, max_nesting}
use Rattle.widget_meaning.specs.Values.{Value, Undefined, Null, Truth, NaN, Num, Text, Own, Host}
use Rattle.widget_meaning.specs.OwnState.{State, Kind, Object, Array, Function, Bunch, Pairs, lookup, cell_at}
use Rattle.widget_meaning.specs.Properties.{index_name}
use Rattle.widget_meaning.specs.JsonValues.{read_json}
use Rattle.widget_meaning.specs.JsonTexts.{Wrote, value_text}

-- a whole number as JSON
abbrev pub whole_data : ℤ → json.Num
whole_data (pos n) = json.unsigned n
whole_data (negsuc n) = json.negative (negsuc n)

-- what gives the tree of a part
abbrev pub PartTree : Type 0
PartTree = Value → Option json.Data

-- elements from an index on, so many
abbrev pub items_tree : PartTree → Pairs → ℕ → ℕ → Option json.Items
items_tree tree ps i zero = Some json.no_items
items_tree tree ps i (suc n) =
    option_and_then (λ d. option_map (json.item d) (items_tree tree ps (i + 1) n))
    (option_and_then tree (lookup ps (index_name i)))

-- names and values
abbrev pub members_tree : PartTree → Pairs → Option json.Members
members_tree tree [] = Some json.no_members
members_tree tree (p ∷ ps) =
    option_and_then (λ d. option_map (json.member (utf8_of p.0) d) (members_tree tree ps)) (tree p.1)

-- an object by its permitted names, an array by its elements
abbrev pub cell_tree : PartTree → Kind → Pairs → Option json.Data
cell_tree tree Object ps = option_map json.object (members_tree tree (filter (λ p. is_permitted p.0) ps))
cell_tree tree (Array len) ps = option_map json.array (items_tree tree ps 0 len)
cell_tree tree (Function f scope) ps = None
cell_tree tree (Bunch ns) ps = None

-- the tree of a value, in which so many arrays and objects may stand one in the other; what has no JSON has none
abbrev pub tree_of : ℕ → State → Value → Option json.Data
tree_of m s Undefined = None
tree_of m s Null = Some json.null
tree_of m s (Truth b) = Some (json.boolean b)
tree_of m s NaN = None
tree_of m s (Num z) = Some (json.number (whole_data z))
tree_of m s (Text t) = Some (json.string (utf8_of t))
tree_of m s (Host h) = None
tree_of zero s (Own n) = None
tree_of (suc m) s (Own n) = cell_tree (tree_of m s) (cell_at s n).kind (cell_at s n).pairs

-- the same tree with the names of each object in the order of the crate's map
abbrev mutual
  -- of a tree
  pub in_order : json.Data → json.Data
  in_order json.null = json.null
  in_order (json.boolean b) = json.boolean b
  in_order (json.number x) = json.number x
  in_order (json.string bs) = json.string bs
  in_order (json.array ds) = json.array (items_in_order ds)
  in_order (json.object ms) = json.object (put_all ms json.no_members)

  -- of items
  pub items_in_order : json.Items → json.Items
  items_in_order json.no_items = json.no_items
  items_in_order (json.item d ds) = json.item (in_order d) (items_in_order ds)

  -- members put in one after the other
  pub put_all : json.Members → json.Members → json.Members
  put_all json.no_members found = found
  put_all (json.member k d ms) found = put_all ms (json.put k (in_order d) found)

-- what holds of every own state: texts are of 16-bit units
abbrev pub HasUnits : List ℕ → Type 0
HasUnits t = (i : ℕ) → slice_index t i < past_units

-- and numbers are within the numbers
abbrev pub IsOrdinary : Value → Type 0
IsOrdinary (Text t) = HasUnits t
IsOrdinary (Num z) = unsigned_abs z < past_numbers
IsOrdinary v = ⊤

-- of names and values
abbrev pub AreOrdinary : Pairs → Type 0
AreOrdinary [] = ⊤
AreOrdinary (p ∷ ps) = HasUnits p.0 × IsOrdinary p.1 × AreOrdinary ps

-- a value that `toJson` writes has a tree; the text is what `serde_json` writes for it, and is read back as the tree
pub record Back (s : State) (v : Value) (t : List ℕ) : Type 0 where
  pub tree : json.Data
  pub is : tree_of max_nesting s v ≡ Some tree
  pub written : utf8_of t ≡ compact_text tree
  pub read : read_json t ≡ Some (in_order tree)

-- for every value that is written
abbrev pub JsonLaws : Type 0
JsonLaws =
    (s : State) (v : Value) (t : List ℕ) → ((n : ℕ) → AreOrdinary (cell_at s n).pairs) → IsOrdinary v
    → value_text max_nesting s v [] ≡ Wrote t → Back s v t
