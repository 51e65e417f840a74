-- New cells as they are made.
use Rattle.std.specs.Prelude.{◌≡◌, ℕ, ◌+◌, ◌<◌, true, List, [], ◌∷◌, ◌++◌, Option, Some, is_some, if◌then◌else◌, length, map, position, unwrap_or, IfSome}
use Rattle.std.specs.List.{list_all}
use Rattle.code_units.specs.declared.owner.Owner.TheVariants as whose
use Rattle.store_cells.specs.declared.value.Value.{Value}
use Rattle.store_cells.specs.declared.value.Value.TheVariants as value
use Rattle.store_cells.specs.declared.kind.Form.{Form}
use Rattle.store_cells.specs.declared.kind.Form.TheVariants as form
use Rattle.store_cells.specs.Lists.{changed}
use Rattle.store_cells.specs.Cells.{Cells, PlainCell, is_array, is_raw, is_scope_at}
use Rattle.store_cells.specs.Costs.{paid}
use Rattle.store_cells.specs.declared.cell.Head.{Head}
use Rattle.store_cells.specs.Host.{array_prototype}
use Rattle.store_cells.specs.Bunches.{array_pairs, bunch_cell, hidden_array}
use Rattle.store_cells.specs.Arrays.{length_name, count_value, written}

-- the store after a widget made cells: they go last, and so many cells and slots are paid
abbrev pub made : Cells → ℕ → List PlainCell → ℕ → ℕ → Cells
made s w born c n = record { cells = s.cells ++ born; kept = changed s.kept w (paid c n 0) }

-- the pairs of a new cell: an Array begins with its `length`, any other cell without pairs
abbrev pub first_pairs : Form → List (List ℕ × Value)
first_pairs f = if is_array f then (length_name, count_value 0) ∷ [] else []

-- a widget's new cell on a prototype
abbrev pub new_cell : ℕ → Form → ℕ → PlainCell
new_cell w f up = record { owner = whose.Widget w; form = f; up = Some up; pairs = first_pairs f }

-- a cell after a pair was written to it
abbrev pub with_pair : PlainCell → List ℕ × Value → PlainCell
with_pair c p = written p.0 p.1 c

-- a new cell of a fixed part, with its first pairs
abbrev pub filled_cell : Head → List (List ℕ × Value) → PlainCell
filled_cell h pairs = record { owner = h.owner; form = h.form; up = h.up; pairs = pairs }

-- a widget's new Object with its first pairs
abbrev pub object_cell : ℕ → ℕ → List (List ℕ × Value) → PlainCell
object_cell w proto pairs = record { owner = whose.Widget w; form = form.Object; up = Some proto; pairs = pairs }

-- a widget's new Array of these elements
abbrev pub array_cell : ℕ → List Value → PlainCell
array_cell w vs =
    record { owner = whose.Widget w; form = form.Array; up = Some array_prototype; pairs = array_pairs vs }

-- a widget's new Scope with its first pairs
abbrev pub scope_cell : ℕ → Option ℕ → List (List ℕ × Value) → PlainCell
scope_cell w outer pairs = record { owner = whose.Widget w; form = form.Scope; up = outer; pairs = pairs }

-- `undefined` under each name
abbrev pub unset : List (List ℕ) → List (List ℕ × Value)
unset names = map (λ name. (name, value.Undefined)) names

-- the place of the cell of a page node
abbrev pub raw_place : ℕ → List PlainCell → Option ℕ
raw_place n cells = position (λ c. is_raw n c.form) cells

-- the same, 0 where the node has no cell
abbrev pub node_place : List PlainCell → ℕ → ℕ
node_place cells n = unwrap_or (raw_place n cells) 0

-- a new Bunch, and right after it its hidden Array, which refers to the cells of its nodes
abbrev pub bunch_cells : List PlainCell → ℕ → List ℕ → List PlainCell
bunch_cells cells w nodes = bunch_cell w (length cells + 1) ∷ hidden_array (map (node_place cells) nodes) ∷ []

-- each of these nodes has a cell
abbrev pub HaveCells : List PlainCell → List ℕ → Type 0
HaveCells cells nodes = list_all (λ n. is_some (raw_place n cells)) nodes ≡ true

-- the scope in which a function or a scope is made, if there is one, is a Scope of the store
abbrev pub IsScopeOf : List PlainCell → Option ℕ → Type 0
IsScopeOf cells scope = IfSome scope (λ j. (j < length cells) × (is_scope_at cells j ≡ true))
