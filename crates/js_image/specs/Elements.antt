-- Arrays and Bunches as natives ask for them, and the names that `for-in` lists.
use Rattle.std.specs.Prelude.{IfSome, ℕ, zero, suc, ◌&&◌, filter, length, map, Bool, false, List, Option, None, Some, if◌then◌else◌, is_some, slice_get, unwrap_or}
use Rattle.std.specs.List.{IsDistinct, list_any, range_with_len}
use Rattle.std.specs.Str.{bytes_eq}
use Rattle.std.specs.Option.{option_and_then, option_map_or}
use Rattle.store_cells.specs.declared.value.Value.{Value}
use Rattle.store_cells.specs.declared.value.Value.TheVariants as value
use Rattle.store_cells.specs.Arrays.{is_index_below, is_reference, keys_of}
use Rattle.store_cells.specs.Cells.{PlainCell, own_count, proto_in, widget_of}
use Rattle.object_store.specs.Calls.{keys_at}
use Rattle.object_store.specs.Elements as store
use Rattle.widget_meaning.specs.Values.{E3}
use Rattle.widget_meaning.specs.OwnState.{State}
use Rattle.widget_meaning.specs.Plan.{Plan}
use Rattle.widget_meaning.specs.Costs.{throw}
use Rattle.widget_meaning.specs.Properties.{is_listed, listed}

-- the number of the own cell to which a value refers
abbrev pub own_place : ℕ → List PlainCell → Value → ℕ
own_place w cells (value.Ref i) = own_count w cells i
own_place w cells _ = 0

-- what is done with an Array, by its number and its length; all else throws E3
abbrev pub array_plan : ℕ → Option ℕ → (ℕ → ℕ → Plan) → State → Plan
array_plan n None k s = throw E3 s
array_plan n (Some len) k s = k n len

-- the length of a value that is an Array
abbrev pub stored_length : List PlainCell → Value → Option ℕ
stored_length cells (value.Ref i) = option_and_then store.array_length (slice_get cells i)
stored_length cells _ = None

-- an element of a value that is an Array, or else `undefined`
abbrev pub stored_element : List PlainCell → Value → ℕ → Value
stored_element cells (value.Ref i) at = unwrap_or (option_and_then (store.element at) (slice_get cells i)) value.Undefined
stored_element cells _ at = value.Undefined

-- whether an own name of a value that is an index below a number has a reference
abbrev pub stored_references : List PlainCell → Value → ℕ → Bool
stored_references cells (value.Ref i) n =
    option_map_or (λ c. list_any (λ p. is_index_below n p.0 && is_reference p.1) c.pairs) (slice_get cells i) false
stored_references cells _ n = false

-- whether a cell has an index as an Array
abbrev pub is_stored : List PlainCell → ℕ → ℕ → Bool
is_stored cells i at = is_some (option_and_then (store.element at) (slice_get cells i))

-- how many indices below a number are own names of a value that is an Array
abbrev pub stored_count : List PlainCell → Value → ℕ → ℕ
stored_count cells (value.Ref i) n = length (filter (is_stored cells i) (range_with_len 0 n))
stored_count cells _ n = 0

-- the own names of a value differ
abbrev pub DifferAt : List PlainCell → Value → Type 0
DifferAt cells (value.Ref i) = IfSome (slice_get cells i) (λ c. IsDistinct bytes_eq (map (λ p. p.0) c.pairs))
DifferAt cells _ = Unit {0}

-- the page nodes of a value that is a Bunch
abbrev pub stored_nodes : List PlainCell → Value → Option (List ℕ)
stored_nodes cells (value.Ref i) = option_and_then (store.bunch_nodes cells) (slice_get cells i)
stored_nodes cells _ = None

-- whether a value has an own property
abbrev pub stored_own : List PlainCell → Value → List ℕ → Bool
stored_own cells (value.Ref i) name = option_map_or (store.shows_own name) (slice_get cells i) false
stored_own cells _ name = false

-- whether the cell at a place lists a name
abbrev pub is_listed_in : List PlainCell → List ℕ → ℕ → Bool
is_listed_in cells name i = is_listed (keys_at cells i) name

-- the names along the prototypes of a cell, so many links far, behind those listed; the host's cells give none
abbrev pub stored_names : ℕ → List PlainCell → Option ℕ → List (List ℕ) → List (List ℕ)
stored_names zero cells at xs = xs
stored_names (suc m) cells None xs = xs
stored_names (suc m) cells (Some i) xs =
    option_map_or (λ c. if is_some (widget_of c.owner) then stored_names m cells (proto_in c) (listed xs (keys_of c)) else xs) (slice_get cells i) xs
