-- The store as plain data: a list of cells in the order of birth, and what each owner has paid.
use Rattle.std.specs.Prelude.{ℕ, ◌-◌, ◌<◌, Bool, true, false, List, [], Option, None, Some, is_some, nat_eq, ◌&&◌, if◌then◌else◌, length, slice_get, unwrap_or}
use Rattle.std.specs.List.{find}
use Rattle.std.specs.Option.{option_map_or, option_and_then}
use Rattle.std.specs.Map.{lookup}
use Rattle.std.specs.Str.{bytes_eq}
use Rattle.code_units.specs.declared.owner.Owner.{Owner}
use Rattle.code_units.specs.declared.owner.Owner.TheVariants as whose
use Rattle.store_cells.specs.declared.value.Value.{Value}
use Rattle.store_cells.specs.declared.kind.Form.{Form}
use Rattle.store_cells.specs.declared.kind.Form.TheVariants as form
use Rattle.store_cells.specs.declared.kind.FunParts.{FunParts}
use Rattle.store_cells.specs.declared.kind.CellKind.{CellKind}
use Rattle.store_cells.specs.declared.kind.CellKind.TheVariants as kind
use Rattle.permitted_table.specs.declared.native.NativeId.{NativeId}
use Rattle.store_cells.specs.declared.counts.Counts.{Counts}
use Rattle.store_cells.specs.Lists.{climb, links, count_before}

-- A cell: whose it is, what it is, its prototype or outer scope, and its pairs of a name and a value in order.
pub record PlainCell : Type 0 where
  pub owner : Owner
  pub form : Form
  pub up : Option ℕ
  pub pairs : List (List ℕ × Value)

-- The store: its cells by birth, and the counts of each widget.
pub record Cells : Type 0 where
  pub cells : List PlainCell
  pub kept : List Counts

-- the kind of a form
abbrev pub kind_of : Form → CellKind
kind_of form.Object = kind.Object
kind_of form.Array = kind.Array
kind_of (form.Function p) = kind.Function
kind_of (form.Native n) = kind.Native
kind_of form.Scope = kind.Scope
kind_of form.Bunch = kind.Bunch
kind_of (form.RawNode n) = kind.RawNode
kind_of form.Global = kind.Global

-- whether a form is that of a Scope
abbrev pub is_scope : Form → Bool
is_scope form.Scope = true
is_scope _ = false

-- whether a form is that of an Array
abbrev pub is_array : Form → Bool
is_array form.Array = true
is_array _ = false

-- whether a form is that of a Bunch
abbrev pub is_bunch : Form → Bool
is_bunch form.Bunch = true
is_bunch _ = false

-- whether a form is one that a widget can see: Object, Array, Function or Bunch
abbrev pub is_visible_form : Form → Bool
is_visible_form form.Object = true
is_visible_form form.Array = true
is_visible_form (form.Function p) = true
is_visible_form form.Bunch = true
is_visible_form _ = false

-- the parts of a function, none exactly for another form
abbrev pub function_in : Form → Option FunParts
function_in (form.Function p) = Some p
function_in _ = None

-- the native, none exactly for another form
abbrev pub native_in : Form → Option NativeId
native_in (form.Native n) = Some n
native_in _ = None

-- the page node, none exactly for another form
abbrev pub node_in : Form → Option ℕ
node_in (form.RawNode n) = Some n
node_in _ = None

-- whether a form is that of the RawNode of a page node
abbrev pub is_raw : ℕ → Form → Bool
is_raw n f = option_map_or (λ m. nat_eq n m) (node_in f) false

-- the number of an owner that is a widget
abbrev pub widget_of : Owner → Option ℕ
widget_of whose.Host = None
widget_of (whose.Widget w) = Some w

-- the widget that may write to a cell: none for a Bunch and for a cell of the host
abbrev pub writer_in : Owner → Form → Option ℕ
writer_in o f = if is_bunch f then None else widget_of o

-- whether an owner and a form are those of a widget's visible cells
abbrev pub is_own : ℕ → Owner → Form → Bool
is_own w o f = option_map_or (λ v. nat_eq v w && is_visible_form f) (widget_of o) false

-- whether a cell is one of a widget's visible cells
abbrev pub is_visible : ℕ → PlainCell → Bool
is_visible w c = is_own w c.owner c.form

-- how many visible cells of a widget come before a place: the number of the one that stands there
abbrev pub own_count : ℕ → List PlainCell → ℕ → ℕ
own_count w cells i = count_before (is_visible w) cells i

-- the value under a name among pairs
abbrev pub value_of : List (List ℕ × Value) → List ℕ → Option Value
value_of pairs name = lookup (bytes_eq name) pairs

-- whether a cell has a name of its own
abbrev pub has_own : List ℕ → PlainCell → Bool
has_own name c = is_some (value_of c.pairs name)

-- the place of the first cell with a name, from a cell on along its prototypes or outer scopes
abbrev pub holder : List PlainCell → ℕ → List ℕ → Option ℕ
holder cells i name = climb (has_own name) (λ c. c.up) (length cells) cells (Some i)

-- the value under a name of the cell at a place
abbrev pub own_value_at : List PlainCell → List ℕ → ℕ → Option Value
own_value_at cells name i = option_and_then (λ c. value_of c.pairs name) (slice_get cells i)

-- the value under a name of the first cell with it, from a cell on along its prototypes or outer scopes
abbrev pub value_along : List PlainCell → ℕ → List ℕ → Option Value
value_along cells i name = option_and_then (own_value_at cells name) (holder cells i name)

-- a cell and its prototypes, or a scope and its outer scopes
abbrev pub chain : List PlainCell → ℕ → List PlainCell
chain cells i = links (λ c. c.up) (length cells) cells (Some i)

-- the value under a name of the first of some cells that has it
abbrev pub first_own : List ℕ → List PlainCell → Option Value
first_own name cells = option_and_then (λ c. value_of c.pairs name) (find (has_own name) cells)

-- the form of the cell at a place
abbrev pub form_at : List PlainCell → ℕ → Option Form
form_at cells i = option_and_then (λ c. Some c.form) (slice_get cells i)

-- whether the cell at a place is a Scope
abbrev pub is_scope_at : List PlainCell → ℕ → Bool
is_scope_at cells i = option_map_or (λ c. is_scope c.form) (slice_get cells i) false

-- whether the cell at a place is a Bunch
abbrev pub is_bunch_at : List PlainCell → ℕ → Bool
is_bunch_at cells i = option_map_or (λ c. is_bunch c.form) (slice_get cells i) false

-- a cell's prototype: an outer scope is none
abbrev pub proto_in : PlainCell → Option ℕ
proto_in c = if is_scope c.form then None else c.up

-- the number of prototypes on a cell's chain
abbrev pub prototypes : List PlainCell → ℕ → ℕ
prototypes cells i = if is_scope_at cells i then 0 else length (chain cells i) - 1

-- the cells that a widget has paid
abbrev pub kept_cells : List Counts → ℕ → ℕ
kept_cells kept w = option_map_or (λ k. k.cells) (slice_get kept w) 0

-- a new RawNode, the host's cell of a page node
abbrev pub raw_cell : ℕ → PlainCell
raw_cell n = record { owner = whose.Host; form = form.RawNode n; up = None; pairs = [] }

-- one of the 32 widgets
abbrev pub IsWidget : Owner → Type 0
IsWidget whose.Host = ⊥
IsWidget (whose.Widget w) = w < 32

-- the host or one of the 32 widgets
abbrev pub IsOwner : Owner → Type 0
IsOwner whose.Host = Unit {0}
IsOwner (whose.Widget w) = w < 32

-- a widget's number
abbrev pub number_in : Owner → ℕ
number_in o = unwrap_or (widget_of o) 0

-- the place of a cell among its owner's visible cells, none exactly for a cell that is no visible cell of a widget
abbrev pub own_number_of : List PlainCell → ℕ → PlainCell → Option ℕ
own_number_of cells i c =
    option_and_then (λ w. if is_visible_form c.form then Some (own_count w cells i) else None) (widget_of c.owner)
