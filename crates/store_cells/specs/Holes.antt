-- Tables of pairs with holes.
use Rattle.std.specs.Prelude.{◌≡◌, ℕ, ◌<◌, ◌≤◌, Bool, List, [], ◌∷◌, ◌++◌, Option, None, Some, cond, map, not, ◌&&◌, if◌then◌else◌, filter, nat_lt, slice_get}
use Rattle.std.specs.BTreeMap.{is_at}
use Rattle.std.specs.Option.{option_and_then, option_map}
use Rattle.std.specs.Ordering.{nat_cmp}
use Rattle.std.specs.Str.{bytes_eq}
use Rattle.code_units.specs.Permitted.{is_permitted}
use Rattle.store_cells.specs.declared.value.Value.{Value}
use Rattle.store_cells.specs.declared.pairs.TheConstants.{FIRST_HOLE}
use Rattle.store_cells.specs.Arrays.{is_index_below, is_reference, length_name}
use Rattle.store_cells.specs.Numbered.{found_in, live, name_at, named, noted_below}

-- whether a number is a name's, and no hole's
abbrev pub is_name : ℕ → Bool
is_name n = nat_lt n FIRST_HOLE

-- a table with no holes that are counted has none
abbrev pub IsFull : ℕ → List (ℕ × Value) → Type 0
IsFull holes es = holes ≡ 0 → live es ≡ es

-- A name stands at a place of a table, which is less than the number of the first hole.
pub record StandsAt (es : List (ℕ × Value)) (n at : ℕ) : Type 0 where
  pub small : at < FIRST_HOLE
  pub number : option_map (λ e. e.0) (slice_get es at) ≡ Some n

-- whether a name is listed: it is permitted, and no `length` of an Array
abbrev pub listed_in : Bool → List ℕ → Bool
listed_in array name = is_permitted name && not (array && bytes_eq name length_name)

-- the listed names of pairs
abbrev pub listed_names : List (List ℕ) → Bool → List (ℕ × Value) → List (List ℕ)
listed_names names array es = filter (listed_in array) (map (λ p. p.0) (named names es))

-- the name with a number, where it is listed
abbrev pub listed_name : List (List ℕ) → Bool → ℕ → Option (List ℕ)
listed_name names array n =
    option_and_then (λ name. if listed_in array name then Some name else None) (if is_name n then slice_get names n else None)

-- the name at a place of a table, where it is listed
abbrev pub place_key : List (List ℕ) → Bool → List (ℕ × Value) → ℕ → Option (List ℕ)
place_key names array es at = option_and_then (λ e. listed_name names array e.0) (slice_get es at)

-- What was noted as the last index, which is one from n on, is taken out.
pub record IsPoppedPast (n k : ℕ) (old new : List (ℕ × ℕ)) : Type 0 where
  pub at : ℕ
  pub past : n ≤ at
  pub last : old ≡ new ++ (at, k) ∷ []
  pub was : found_in old at ≡ Some k
  pub now : (i : ℕ) → found_in new i ≡ cond (is_at (nat_cmp at) i) None (found_in old i)

-- No index from n on is noted.
pub record IsNonePast (n : ℕ) (els : List (ℕ × ℕ)) : Type 0 where
  pub found : (i : ℕ) → n ≤ i → found_in els i ≡ None
  pub below : noted_below n els ≡ els

-- whether a pair is an element below an index
abbrev pub is_element : List (List ℕ) → ℕ → ℕ × Value → Bool
is_element names n e = is_index_below n (name_at names e.0)

-- whether a pair is an element below an index, and refers to a cell
abbrev pub is_reference_below : List (List ℕ) → ℕ → ℕ × Value → Bool
is_reference_below names n e = is_element names n e && is_reference e.1
