-- What is read of Arrays and Bunches without a name.
use Rattle.std.specs.Prelude.{◌≡◌, ℕ, ◌<◌, Bool, true, false, List, [], ◌∷◌, Option, None, Some, if◌then◌else◌, length}
use Rattle.std.specs.Fmt.{decimal}
use Rattle.store_cells.specs.declared.value.Value.{Value}
use Rattle.store_cells.specs.declared.value.Value.TheVariants as value
use Rattle.store_cells.specs.Cells.{PlainCell, has_own, is_array, is_bunch, value_of}
use Rattle.store_cells.specs.Arrays.{length_of, nodes_name}
use Rattle.object_store.specs.Owned.{nodes_of}

-- the length of an Array, none exactly for a cell of another kind
abbrev pub array_length : PlainCell → Option ℕ
array_length c = if is_array c.form then Some (length_of c.pairs) else None

-- what an Array has under an index, none exactly where it has nothing there, and for a cell of another kind
abbrev pub element : ℕ → PlainCell → Option Value
element at c = if is_array c.form then value_of c.pairs (decimal at) else None

-- the page nodes of a Bunch, none exactly for a cell of another kind
abbrev pub bunch_nodes : List PlainCell → PlainCell → Option (List ℕ)
bunch_nodes cells c = if is_bunch c.form then Some (nodes_of cells c) else None

-- whether a cell shows a name of its own; the pair of a Bunch is hidden
abbrev pub shows_own : List ℕ → PlainCell → Bool
shows_own name c = if is_bunch c.form then false else has_own name c

-- the cell to which a value refers
abbrev pub reference_in : Value → Option ℕ
reference_in (value.Ref i) = Some i
reference_in _ = None

-- the hidden Array of a Bunch; a cell of another kind has none
abbrev pub HasHidden : List PlainCell → PlainCell → Option ℕ → Type 0
HasHidden cells c None = is_bunch c.form ≡ false
HasHidden cells c (Some array) =
    (is_bunch c.form ≡ true) × (c.pairs ≡ (nodes_name, value.Ref array) ∷ []) × (array < length cells)
