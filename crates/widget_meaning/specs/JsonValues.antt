-- JSON as values: what `serde_json` reads in a text, and the objects that stand for it.
use Rattle.std.specs.Prelude.{ℕ, ℤ, pos, unsigned_abs, ◌+◌, Bool, true, false, ◌&&◌, List, [], ◌∷◌, ◌++◌, length, sum_by, nat_lt, if◌then◌else◌, Option}
use Rattle.std.specs.List.{flat_map, fold, list_all, list_any}
use Rattle.code_units.specs.Utf8.{units_of, utf8_of}
use Rattle.code_units.specs.Permitted.{is_permitted}
use Rattle.serde_json.specs.Data as json
use Rattle.serde_json.specs.Read as read
use Rattle.widget_meaning.specs.Limits.{past_numbers}
use Rattle.widget_meaning.specs.Values.{Value, Null, Truth, Num, Text, Own, Number, LongText, E4, E8}
use Rattle.widget_meaning.specs.OwnState.{Amounts, State, Cell, Kind, Object, Pairs, plain_object, new_array, with_new_cell}
use Rattle.widget_meaning.specs.Plan.{Plan, Halt, charge}
use Rattle.widget_meaning.specs.Costs.{pay, cost, throw, give, or_throw, want}
use Rattle.widget_meaning.specs.Properties.{index_name}
use Rattle.widget_meaning.specs.NativeForms.{is_too_long}

-- what the UTF-8 of a text is as JSON, with the names of each object once, in the order of the crate's map
abbrev pub read_json : List ℕ → Option json.Data
read_json t = read.read (utf8_of t)

-- the numbers that are whole and within the numbers
abbrev pub is_number : json.Num → Bool
is_number (json.unsigned n) = nat_lt n past_numbers
is_number (json.negative z) = nat_lt (unsigned_abs z) past_numbers
is_number (json.float x) = false

-- the number; one held as a float stops before it is taken
abbrev pub whole : json.Num → ℤ
whole (json.unsigned n) = pos n
whole (json.negative z) = z
whole (json.float x) = pos 0

abbrev mutual
  -- whether no number in it stops
  pub has_numbers : json.Data → Bool
  has_numbers json.null = true
  has_numbers (json.boolean b) = true
  has_numbers (json.number x) = is_number x
  has_numbers (json.string bs) = true
  has_numbers (json.array ds) = items_have_numbers ds
  has_numbers (json.object ms) = members_have_numbers ms

  -- the same of items
  pub items_have_numbers : json.Items → Bool
  items_have_numbers json.no_items = true
  items_have_numbers (json.item d ds) = has_numbers d && items_have_numbers ds

  -- the same of members
  pub members_have_numbers : json.Members → Bool
  members_have_numbers json.no_members = true
  members_have_numbers (json.member k d ms) = has_numbers d && members_have_numbers ms

-- the value; an array or object is the next that is born
abbrev pub value_at : ℕ → json.Data → Value
value_at n json.null = Null
value_at n (json.boolean b) = Truth b
value_at n (json.number x) = Num (whole x)
value_at n (json.string bs) = Text (units_of bs)
value_at n (json.array ds) = Own n
value_at n (json.object ms) = Own n

-- what a part adds: its name with its value, and its objects
abbrev pub Parts : Type 0
Parts = Pairs × List Cell

-- a part before the others
abbrev pub with_part : List ℕ → Value → List Cell → Parts → Parts
with_part x v cs p = ((x, v) ∷ p.0, cs ++ p.1)

-- an array of these parts, before their objects
abbrev pub array_cells : Parts → List Cell
array_cells p = new_array (length p.0) p.0 ∷ p.1

-- an object of these parts, before their objects
abbrev pub object_cells : Parts → List Cell
object_cells p = plain_object p.0 ∷ p.1

-- the new objects, of which the first is born with this number: a container, then its parts in order
abbrev mutual
  -- none for a primitive
  pub cells_at : ℕ → json.Data → List Cell
  cells_at n json.null = []
  cells_at n (json.boolean b) = []
  cells_at n (json.number x) = []
  cells_at n (json.string bs) = []
  cells_at n (json.array ds) = array_cells (items_at (n + 1) 0 ds)
  cells_at n (json.object ms) = object_cells (members_at (n + 1) ms)

  -- the elements from an index on, and the objects in them
  pub items_at : ℕ → ℕ → json.Items → Parts
  items_at n i json.no_items = ([], [])
  items_at n i (json.item d ds) =
      let cs : List Cell = cells_at n d in
      with_part (index_name i) (value_at n d) cs (items_at (n + length cs) (i + 1) ds)

  -- the names, and the objects in their values
  pub members_at : ℕ → json.Members → Parts
  members_at n json.no_members = ([], [])
  members_at n (json.member k d ms) =
      let cs : List Cell = cells_at n d in
      with_part (units_of k) (value_at n d) cs (members_at (n + length cs) ms)

-- whether the names of an object are permitted
abbrev pub has_permitted_names : Kind → Pairs → Bool
has_permitted_names Object ps = list_all (λ p. is_permitted p.0) ps
has_permitted_names kind ps = true

-- the texts among a value and new objects
abbrev pub texts_of : Value → List (List ℕ)
texts_of (Text t) = t ∷ []
texts_of v = []

-- of the value itself, then of the objects in order
abbrev pub texts_in : Value → List Cell → List (List ℕ)
texts_in v cs = texts_of v ++ flat_map (λ c. flat_map (λ p. texts_of p.1) c.pairs) cs

-- a cell for each object and array, a slot for each name and element, and the units of the texts
abbrev pub json_cost : List (List ℕ) → List Cell → Amounts
json_cost ts cs = cost (sum_by length ts) (length cs) (sum_by (λ c. length c.pairs) cs) 0

-- the stops, the cost, and then all is born
abbrev pub give_read : Bool → Value → List Cell → List (List ℕ) → State → Plan
give_read false v cs ts s = Halt Number s
give_read true v cs ts s =
    if list_any is_too_long ts then Halt LongText s
    else pay (json_cost ts cs) s (λ u. give v (fold with_new_cell u cs))

-- what was read is born; a name that is not permitted throws E8, before the extra
abbrev pub read_value : ℕ → json.Data → List Cell → Value → State → Plan
read_value extra d cs v s =
    want E8 (list_all (λ c. has_permitted_names c.kind c.pairs) cs) s
    (charge extra s (give_read (has_numbers d) v cs (texts_in v cs) s))

-- `fromJson(t)`: all but a text, and what is no JSON, throws E4
abbrev pub from_json : Value → State → Plan
from_json (Text t) s =
    or_throw E4 (read_json t) s
    (λ d. read_value (length t) d (cells_at (length s.own.heap) d) (value_at (length s.own.heap) d) s)
from_json v s = throw E4 s
