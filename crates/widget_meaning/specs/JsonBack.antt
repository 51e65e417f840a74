-- A law of JSON: the objects made for a tree have that tree, so a value that is written and read is the same tree.
use Rattle.std.specs.Prelude.{◌≡◌, ◌≤◌, ◌<◌, Some, ℕ, suc, ◌+◌, pos, negsuc, true, false, List, [], ◌∷◌, length, slice_index_or, ⊤}
use Rattle.std.specs.Char.Utf16.{has_unpaired_surrogate}
use Rattle.std.specs.List.{fold, list_all}
use Rattle.std.specs.Str.{IsUtf8}
use Rattle.code_units.specs.Utf8.{units_of}
use Rattle.code_units.specs.Permitted.{is_permitted}
use Rattle.serde_json.specs.Data as json
use Rattle.widget_meaning.specs.Limits.{past_numbers, max_length, max_nesting}
use Rattle.widget_meaning.specs.Values.{Value, Text}
use Rattle.widget_meaning.specs.OwnState.{State, Cell, Kind, Object, Array, Function, Bunch, Pairs, cell_at, plain_object, with_new_cell}
use Rattle.widget_meaning.specs.Plan.{charge}
use Rattle.widget_meaning.specs.JsonValues.{from_json, give_read, texts_in, value_at, cells_at, has_numbers, has_permitted_names}
use Rattle.widget_meaning.specs.JsonTexts.{Wrote, value_text}
use Rattle.widget_meaning.specs.JsonLaws.{tree_of, in_order, IsOrdinary, AreOrdinary}

-- a number of a tree that stands for a value: whole and within the numbers
abbrev pub IsNumber : json.Num → Type 0
IsNumber (json.unsigned n) = n < past_numbers
IsNumber (json.negative (pos n)) = ⊥
IsNumber (json.negative (negsuc n)) = suc n < past_numbers
IsNumber (json.float x) = ⊥

-- how many items there are
abbrev pub item_count : json.Items → ℕ
item_count json.no_items = 0
item_count (json.item d ds) = suc (item_count ds)

abbrev mutual
  -- of a tree
  pub IsTree : json.Data → Type 0
  IsTree json.null = ⊤
  IsTree (json.boolean b) = ⊤
  IsTree (json.number x) = IsNumber x
  IsTree (json.string bs) = IsUtf8 bs
  IsTree (json.array ds) = (item_count ds ≤ max_length) × AreItems ds
  IsTree (json.object ms) = AreMembers ms

  -- of items
  pub AreItems : json.Items → Type 0
  AreItems json.no_items = ⊤
  AreItems (json.item d ds) = IsTree d × AreItems ds

  -- of members
  pub AreMembers : json.Members → Type 0
  AreMembers json.no_members = ⊤
  AreMembers (json.member k d ms) = IsUtf8 k × (is_permitted (units_of k) ≡ true) × IsTree d × AreMembers ms

-- these objects are those of the state from a number on
abbrev pub StandFrom : State → ℕ → List Cell → Type 0
StandFrom s n cs = (i : ℕ) → i < length cs → cell_at s (n + i) ≡ slice_index_or cs i (plain_object [])

-- the objects that are made for a tree have that tree; none of its names throws, none of its numbers stops
pub record Born (m : ℕ) (s : State) (n : ℕ) (d : json.Data) : Type 0 where
  pub tree : tree_of m s (value_at n d) ≡ Some d
  pub names : list_all (λ c. has_permitted_names c.kind c.pairs) (cells_at n d) ≡ true
  pub numbers : has_numbers d ≡ true

-- for every tree that is not nested deeper than this
abbrev pub BornLaws : Type 0
BornLaws =
    (m : ℕ) (s : State) (n : ℕ) (d : json.Data) → IsTree d → json.depth d ≤ m → StandFrom s n (cells_at n d)
    → Born m s n d

-- what holds of every own state, and names without lone surrogates
abbrev pub HasWholeNames : Pairs → Type 0
HasWholeNames [] = ⊤
HasWholeNames (p ∷ ps) = (has_unpaired_surrogate p.0 ≡ false) × HasWholeNames ps

-- of a kind
abbrev pub HasLength : Kind → Type 0
HasLength (Array len) = len ≤ max_length
HasLength Object = ⊤
HasLength (Function f scope) = ⊤
HasLength (Bunch ns) = ⊤

-- of an object
pub record IsOrdinaryCell (c : Cell) : Type 0 where
  pub ordinary : AreOrdinary c.pairs
  pub names : HasWholeNames c.pairs
  pub len : HasLength c.kind

-- a value that `toJson` writes, and `fromJson` of its text: no fault, no stop for a number, and objects of the same
-- tree
pub record Returns (s : State) (v : Value) (t : List ℕ) : Type 0 where
  pub tree : json.Data
  pub is : tree_of max_nesting s v ≡ Some tree
  pub reads : (u : State) → from_json (Text t) u
      ≡ charge (length t) u
      (give_read true (value_at (length u.own.heap) (in_order tree))
      (cells_at (length u.own.heap) (in_order tree))
      (texts_in (value_at (length u.own.heap) (in_order tree)) (cells_at (length u.own.heap) (in_order tree))) u)
  pub again : (u : State)
      → tree_of max_nesting (fold with_new_cell u (cells_at (length u.own.heap) (in_order tree)))
      (value_at (length u.own.heap) (in_order tree)) ≡ Some (in_order tree)

-- for every value that is written
abbrev pub ReturnLaws : Type 0
ReturnLaws =
    (s : State) (v : Value) (t : List ℕ) → ((n : ℕ) → IsOrdinaryCell (cell_at s n)) → IsOrdinary v
    → value_text max_nesting s v [] ≡ Wrote t → Returns s v t
