-- Arrays: one pair under `length`, and names that are indices.
use Rattle.std.specs.Prelude.{ℕ, ◌+◌, Bool, true, false, List, [], ◌∷◌, Option, None, Some, nat_lt, nat_le, pos, filter, map, not, ◌&&◌, if◌then◌else◌}
use Rattle.std.specs.Option.{option_map_or, option_and_then}
use Rattle.std.specs.Map.{remove_entry}
use Rattle.std.specs.Str.{bytes_eq}
use Rattle.code_units.specs.Permitted.{is_permitted}
use Rattle.indexmap.specs.IndexMap.{insert_entry}
use Rattle.code_units.specs.Indices.{index_of}
use Rattle.store_cells.specs.declared.value.Value.{Value}
use Rattle.store_cells.specs.declared.value.Value.TheVariants as value
use Rattle.store_cells.specs.declared.value.Number.TheVariants as number
use Rattle.store_cells.specs.Cells.{PlainCell, value_of, is_array}

-- the name `length`
abbrev pub length_name : List ℕ
length_name = 108 ∷ 101 ∷ 110 ∷ 103 ∷ 116 ∷ 104 ∷ []

-- the name `___nodes___`
abbrev pub nodes_name : List ℕ
nodes_name = 95 ∷ 95 ∷ 95 ∷ 110 ∷ 111 ∷ 100 ∷ 101 ∷ 115 ∷ 95 ∷ 95 ∷ 95 ∷ []

-- a count as a value
abbrev pub count_value : ℕ → Value
count_value n = value.Num (number.Whole (pos n))

-- the length that a value is: a whole number from 0 to 4294967295
abbrev pub length_in : Value → Option ℕ
length_in (value.Num (number.Whole (pos n))) = if nat_le n 4294967295 then Some n else None
length_in _ = None

-- an Array's length
abbrev pub length_of : List (List ℕ × Value) → ℕ
length_of pairs = option_map_or (λ n. n) (option_and_then length_in (value_of pairs length_name)) 0

-- one past the index that a name is, 0 where it is none
abbrev pub end_of : List ℕ → ℕ
end_of name = option_map_or (λ i. i + 1) (index_of name) 0

-- whether a name is no index from n on
abbrev pub is_below : ℕ → List ℕ → Bool
is_below n name = option_map_or (λ i. nat_lt i n) (index_of name) true

-- whether a name is an index below n
abbrev pub is_index_below : ℕ → List ℕ → Bool
is_index_below n name = option_map_or (λ i. nat_lt i n) (index_of name) false

-- whether a value refers to a cell
abbrev pub is_reference : Value → Bool
is_reference (value.Ref i) = true
is_reference _ = false

-- a cell after a write under a name: an own name keeps its place, and a new one goes last
abbrev pub written : List ℕ → Value → PlainCell → PlainCell
written name v c = record c { pairs = insert_entry bytes_eq c.pairs name v }

-- a cell without the elements from n on
abbrev pub cut : ℕ → PlainCell → PlainCell
cut n c = record c { pairs = filter (λ p. is_below n p.0) c.pairs }

-- an Array after a write under `length`, which takes out the elements past it
abbrev pub resized : Value → PlainCell → PlainCell
resized v c = option_map_or (λ n. cut n (written length_name v c)) (length_in v) c

-- an Array after a write of an element at or past its length, which raises it
abbrev pub extended : List ℕ → Value → ℕ → PlainCell → PlainCell
extended name v i c = written length_name (count_value (i + 1)) (written name v c)

-- an Array after a write under a name other than `length`, by the index that the name is
abbrev pub placed : List ℕ → Value → PlainCell → Option ℕ → PlainCell
placed name v c None = written name v c
placed name v c (Some i) = if nat_lt i (length_of c.pairs) then written name v c else extended name v i c

-- an Array after a write under a name (ECMA-262 3rd edition, 15.4.5.1)
abbrev pub array_stored : List ℕ → Value → PlainCell → PlainCell
array_stored name v c = if bytes_eq name length_name then resized v c else placed name v c (index_of name)

-- a cell after a write under a name (ECMA-262 3rd edition, 8.6.2.2)
abbrev pub stored : List ℕ → Value → PlainCell → PlainCell
stored name v c = if is_array c.form then array_stored name v c else written name v c

-- whether a value is no length
abbrev pub is_no_length : Value → Bool
is_no_length v = option_map_or (λ n. false) (length_in v) true

-- whether a write gives the `length` of an Array what is no length
abbrev pub is_bad_length : List ℕ → Value → PlainCell → Bool
is_bad_length name v c =
    if is_array c.form then (if bytes_eq name length_name then is_no_length v else false) else false

-- whether a name is the `length` of an Array
abbrev pub is_length_of : List ℕ → PlainCell → Bool
is_length_of name c = is_array c.form && bytes_eq name length_name

-- a cell after a name was taken out; an Array keeps its `length`
abbrev pub without : List ℕ → PlainCell → PlainCell
without name c = if is_length_of name c then c else record c { pairs = remove_entry (bytes_eq name) c.pairs }

-- whether `keys` lists a name: it is permitted, and not the `length` of an Array
abbrev pub is_key : PlainCell → List ℕ → Bool
is_key c name = is_permitted name && not (is_length_of name c)

-- the names of a cell that `keys` lists, in order of insertion
abbrev pub keys_of : PlainCell → List (List ℕ)
keys_of c = filter (is_key c) (map (λ p. p.0) c.pairs)
