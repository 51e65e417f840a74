-- What one widget has, by itself: its visible cells and its scopes, each by birth, references by
-- the numbers of its own, and what it has paid.
use Rattle.std.specs.Prelude.{◌≡◌, ℕ, ◌+◌, max, Bool, true, false, List, [], ◌∷◌, ◌++◌, Option, None, Some, if◌then◌else◌, filter, length, map, not, nat_eq, ◌&&◌, slice_get, IfSome}
use Rattle.std.specs.List.{filter_map}
use Rattle.std.specs.Map.{remove_entry}
use Rattle.indexmap.specs.IndexMap.{insert_entry}
use Rattle.std.specs.Option.{option_map, option_map_or, option_and_then}
use Rattle.std.specs.Str.{bytes_eq}
use Rattle.js_tree.specs.declared.nodes.FunId.{FunId}
use Rattle.code_units.specs.declared.owner.Owner.{Owner}
use Rattle.store_cells.specs.declared.value.Value.{Value}
use Rattle.store_cells.specs.declared.value.Value.TheVariants as value
use Rattle.store_cells.specs.declared.kind.Form.{Form}
use Rattle.store_cells.specs.declared.kind.Form.TheVariants as form
use Rattle.store_cells.specs.declared.counts.Counts.{Counts}
use Rattle.object_store.specs.declared.store.NewCell.{NewCell}
use Rattle.object_store.specs.declared.store.NewCell.TheVariants as fresh
use Rattle.code_units.specs.Indices.{index_of}
use Rattle.store_cells.specs.Lists.{changed, count_before}
use Rattle.store_cells.specs.Cells.{Cells, PlainCell, holder, is_array, is_bunch, is_scope, is_visible, own_count, value_of, widget_of}
use Rattle.store_cells.specs.Arrays.{is_below, length_in, length_name, length_of, nodes_name}
use Rattle.store_cells.specs.Bunches.{elements, node_at}
use Rattle.object_store.specs.Calls.{cells_for, slots_at, slots_of}
use Rattle.store_cells.specs.Costs.{paid}
use Rattle.store_cells.specs.Host.{array_prototype, bunch_prototype, function_prototype}

-- A value as a widget has it: a primitive, an own cell by its number, or a cell that is not its own by its place.
pub data OwnValue : Type 0 where
  Is : Value → OwnValue
  Own : ℕ → OwnValue
  Other : ℕ → OwnValue

-- What a visible cell is: an Array has its length, a Function its tree, its function there, whether a declaration made
-- it, and its scope, a Bunch its nodes.
pub data OwnKind : Type 0 where
  Object : OwnKind
  Array : ℕ → OwnKind
  Function : ℕ → FunId → Bool → Option ℕ → OwnKind
  Bunch : List ℕ → OwnKind

-- A visible cell of a widget: what it is, its prototype, and its pairs in order of insertion.
pub record OwnCell : Type 0 where
  pub kind : OwnKind
  pub prototype : Option OwnValue
  pub pairs : List (List ℕ × OwnValue)

-- A scope of a widget: its outer scope by its number, and its pairs in order.
pub record OwnScope : Type 0 where
  pub outer : Option ℕ
  pub pairs : List (List ℕ × OwnValue)

-- What a widget has: its visible cells and its scopes by birth, and what it has paid.
pub record Owned : Type 0 where
  pub heap : List OwnCell
  pub scopes : List OwnScope
  pub paid : Option Counts

-- whether an owner is a widget
abbrev pub is_of : ℕ → Owner → Bool
is_of w o = option_map_or (λ v. nat_eq v w) (widget_of o) false

-- whether a cell is one of a widget's scopes
abbrev pub is_own_scope : ℕ → PlainCell → Bool
is_own_scope w c = is_of w c.owner && is_scope c.form

-- the page node to whose RawNode a value refers
abbrev pub node_of : List PlainCell → Value → Option ℕ
node_of cells (value.Ref i) = node_at cells i
node_of cells _ = None

-- the nodes of the elements of an Array, in their order
abbrev pub nodes_in : List PlainCell → List (List ℕ × Value) → List ℕ
nodes_in cells pairs = filter_map (λ p. node_of cells p.1) pairs

-- the cell to which a value refers
abbrev pub cell_of : List PlainCell → Value → Option PlainCell
cell_of cells (value.Ref i) = slice_get cells i
cell_of cells _ = None

-- the nodes of a Bunch, through its hidden Array
abbrev pub nodes_of : List PlainCell → PlainCell → List ℕ
nodes_of cells c =
    let hidden = option_and_then (cell_of cells) (value_of c.pairs nodes_name) in
    option_map_or (λ (a : PlainCell). nodes_in cells a.pairs) hidden []

-- pairs but for the `length` of an Array
abbrev pub but_length : List (List ℕ × Value) → List (List ℕ × Value)
but_length ps = filter (λ p. not (bytes_eq p.0 length_name)) ps

-- the pairs that a widget sees: none of a Bunch, and not the `length` of an Array
abbrev pub shown : PlainCell → List (List ℕ × Value)
shown c = if is_bunch c.form then [] else (if is_array c.form then but_length c.pairs else c.pairs)

module _ (w : ℕ) (cells : List PlainCell) where
  -- whether the cell at a place is one of the widget's visible cells
  abbrev pub visible_at : ℕ → Bool
  visible_at i = option_map_or (is_visible w) (slice_get cells i) false

  -- a reference to the cell at a place: its own by its number, another by its place
  abbrev pub own_link : ℕ → OwnValue
  own_link i = if visible_at i then Own (own_count w cells i) else Other i

  -- a value as the widget has it
  abbrev pub own_value : Value → OwnValue
  own_value value.Undefined = Is value.Undefined
  own_value value.Null = Is value.Null
  own_value (value.Bool b) = Is (value.Bool b)
  own_value (value.Num n) = Is (value.Num n)
  own_value (value.Text t) = Is (value.Text t)
  own_value (value.Ref i) = own_link i

  -- pairs as the widget has them
  abbrev pub own_pairs : List (List ℕ × Value) → List (List ℕ × OwnValue)
  own_pairs ps = map (λ p. (p.0, own_value p.1)) ps

  -- the number of the scope at a place among the widget's
  abbrev pub scope_number : ℕ → ℕ
  scope_number i = count_before (is_own_scope w) cells i

  -- what a visible cell is, by its form
  abbrev pub own_kind : PlainCell → Form → OwnKind
  own_kind c form.Array = Array (length_of c.pairs)
  own_kind c (form.Function p) = Function p.code p.fun p.declared (option_map scope_number p.scope)
  own_kind c form.Bunch = Bunch (nodes_of cells c)
  own_kind c _ = Object

  -- a visible cell as the widget has it
  abbrev pub own_cell : PlainCell → OwnCell
  own_cell c = record { kind = own_kind c c.form; prototype = option_map own_link c.up; pairs = own_pairs (shown c) }

  -- a scope as the widget has it
  abbrev pub own_scope : PlainCell → OwnScope
  own_scope c = record { outer = option_map scope_number c.up; pairs = own_pairs c.pairs }

  -- the widget's visible cells among some cells
  abbrev pub own_cells : List PlainCell → List OwnCell
  own_cells cs = map own_cell (filter (is_visible w) cs)

  -- the widget's scopes among some cells
  abbrev pub own_scopes : List PlainCell → List OwnScope
  own_scopes cs = map own_scope (filter (is_own_scope w) cs)

-- what a widget has in a store
unfoldable pub owned : ℕ → Cells → Owned
owned w s = record {
  heap = own_cells w s.cells s.cells;
  scopes = own_scopes w s.cells s.cells;
  paid = slice_get s.kept w;
}

-- whether the cell at a place is a widget's
abbrev pub is_of_at : ℕ → List PlainCell → ℕ → Bool
is_of_at w cells i = option_map_or (λ (c : PlainCell). is_of w c.owner) (slice_get cells i) false

-- an Array's length as an own value
abbrev pub own_length : OwnValue → Option ℕ
own_length (Is v) = length_in v
own_length _ = None

-- an own cell with another kind and other pairs
abbrev pub with_own : OwnCell → OwnKind → List (List ℕ × OwnValue) → OwnCell
with_own c k ps = record c { kind = k; pairs = ps }

-- an own Array after a write under `length`, which takes out the elements past it
abbrev pub own_resized : OwnCell → Option ℕ → OwnCell
own_resized c None = c
own_resized c (Some n) = with_own c (Array n) (filter (λ p. is_below n p.0) c.pairs)

-- the length of an Array after a write under a name, by the index that the name is
abbrev pub own_raised : ℕ → Option ℕ → ℕ
own_raised n None = n
own_raised n (Some i) = max n (i + 1)

-- an own Array of a length after a write under a name other than `length`
abbrev pub own_placed : List ℕ → OwnValue → OwnCell → ℕ → OwnCell
own_placed name v c n = with_own c (Array (own_raised n (index_of name))) (insert_entry bytes_eq c.pairs name v)

-- an own cell of a kind after a write under a name
abbrev pub own_stored : List ℕ → OwnValue → OwnCell → OwnKind → OwnCell
own_stored name v c (Array n) =
    if bytes_eq name length_name then own_resized c (own_length v) else own_placed name v c n
own_stored name v c k = with_own c k (insert_entry bytes_eq c.pairs name v)

-- an own cell after a write under a name
abbrev pub own_put : List ℕ → OwnValue → OwnCell → OwnCell
own_put name v c = own_stored name v c c.kind

-- an own cell after a name was taken out; the `length` of an Array is no pair here, and stays
abbrev pub own_removed : List ℕ → OwnCell → OwnCell
own_removed name c = with_own c c.kind (remove_entry (bytes_eq name) c.pairs)

-- an own scope after a variable was written
abbrev pub own_set : List ℕ → OwnValue → OwnScope → OwnScope
own_set name v c = record c { pairs = insert_entry bytes_eq c.pairs name v }

-- what a widget has after it paid for cells, slots and text units
abbrev pub own_paid : ℕ → ℕ → ℕ → Owned → Owned
own_paid c n u o = record o { paid = option_map (paid c n u) o.paid }

-- A widget sees a change of the one of its cells that stands at a place of the store, and that it paid so many slots,
-- and nothing else.
pub record Changed (w : ℕ) (old new : Cells) (i slots : ℕ) (g : OwnCell → OwnCell) : Type 0 where
  pub heap : (owned w new).heap ≡ changed (owned w old).heap (own_count w old.cells i) g
  pub scopes : (owned w new).scopes ≡ (owned w old).scopes
  pub paid : (owned w new).paid ≡ (own_paid 0 slots 0 (owned w old)).paid

-- whether the cell at a place is one of a widget's scopes
abbrev pub is_own_scope_at : ℕ → List PlainCell → ℕ → Bool
is_own_scope_at w cells i = option_map_or (is_own_scope w) (slice_get cells i) false

-- A widget sees a change of the one of its scopes that stands at a place of the store, and nothing else, and paid
-- nothing.
pub record Assigned (w : ℕ) (old new : Cells) (i : ℕ) (g : OwnScope → OwnScope) : Type 0 where
  pub heap : (owned w new).heap ≡ (owned w old).heap
  pub scopes : (owned w new).scopes ≡ changed (owned w old).scopes (scope_number w old.cells i) g
  pub paid : (owned w new).paid ≡ (owned w old).paid

-- a new own cell of a kind on its prototype
abbrev pub first_cell : OwnKind → OwnValue → OwnCell
first_cell k up = record { kind = k; prototype = Some up; pairs = [] }

-- a new own scope: `undefined` under each of its names, in their order
abbrev pub first_scope : Option ℕ → List (List ℕ) → OwnScope
first_scope outer names = record { outer = outer; pairs = map (λ name. (name, Is value.Undefined)) names }

-- a new own cell with its first pairs
abbrev pub filled_own : OwnKind → OwnValue → List (List ℕ × OwnValue) → OwnCell
filled_own k up ps = record { kind = k; prototype = Some up; pairs = ps }

module _ (w : ℕ) (cells : List PlainCell) where
  -- the own cell that `make` adds, if it adds one
  abbrev pub made_cells : NewCell → List OwnCell
  made_cells (fresh.Object proto) = first_cell Object (own_link w cells proto) ∷ []
  made_cells fresh.Array = first_cell (Array 0) (Other array_prototype) ∷ []
  made_cells (fresh.Function code fun declared scope) =
      first_cell (Function code fun declared (option_map (scope_number w cells) scope)) (Other function_prototype) ∷ []
  made_cells (fresh.Scope outer names) = []
  made_cells (fresh.Bunch nodes) = first_cell (Bunch nodes.items) (Other bunch_prototype) ∷ []
  made_cells (fresh.ObjectWith proto pairs) =
      filled_own Object (own_link w cells proto) (own_pairs w cells pairs.items) ∷ []
  made_cells (fresh.ArrayWith values) =
      filled_own (Array (length values.items)) (Other array_prototype) (own_pairs w cells (elements 0 values.items)) ∷ []
  made_cells (fresh.ScopeWith outer pairs) = []

  -- the own scope that `make` adds, if it adds one
  abbrev pub made_scopes : NewCell → List OwnScope
  made_scopes (fresh.Scope outer names) = first_scope (option_map (scope_number w cells) outer) names.items ∷ []
  made_scopes (fresh.ScopeWith outer pairs) =
      record { outer = option_map (scope_number w cells) outer; pairs = own_pairs w cells pairs.items } ∷ []
  made_scopes _ = []

-- what a widget has after `make`: what is made comes last, and its cost is paid
abbrev pub own_made : ℕ → Cells → NewCell → Owned
own_made w s n = own_paid (cells_for n) (slots_of n) 0 (record (owned w s) {
  heap = (owned w s).heap ++ made_cells w s.cells n;
  scopes = (owned w s).scopes ++ made_scopes w s.cells n;
})

-- A widget sees what it made and paid, and nothing else: the new cell, by its place in the store, has the next number
-- of its sort.
pub record Made (w : ℕ) (old new : Cells) (i : ℕ) (n : NewCell) : Type 0 where
  pub seen : owned w new ≡ own_made w old n
  pub number : own_count w new.cells i ≡ length (owned w old).heap
  pub scope : scope_number w new.cells i ≡ length (owned w old).scopes

-- what a widget has after `make_call_scope`: the scope comes last, and its cost is paid
abbrev pub own_scoped : ℕ → Cells → Option ℕ → List (List ℕ × Value) → Owned
own_scoped w s outer pairs = own_paid 0 (length pairs + 1) 0 (record (owned w s) {
  scopes = (owned w s).scopes ++ (record { outer = option_map (scope_number w s.cells) outer; pairs = own_pairs w s.cells pairs }) ∷ [];
})

-- A widget sees the scope that it made with its first pairs, and paid, and nothing else; it has the next number.
pub record ScopeMade (w : ℕ) (old new : Cells) (i : ℕ) (outer : Option ℕ) (pairs : List (List ℕ × Value)) : Type 0 where
  pub seen : owned w new ≡ own_scoped w old outer pairs
  pub scope : scope_number w new.cells i ≡ length (owned w old).scopes

-- what a widget sees of a `put` into one of its cells
abbrev pub SeesPut : ℕ → Cells → Cells → ℕ → List ℕ → Value → Type 0
SeesPut w old new i name v =
    visible_at w old.cells i ≡ true
    → Changed w old new i (slots_at old.cells i name) (own_put name (own_value w old.cells v))

-- what a widget sees of a `put_paid` into one of its cells
abbrev pub SeesPaid : ℕ → Cells → Cells → ℕ → List ℕ → Value → Type 0
SeesPaid w old new i name v =
    visible_at w old.cells i ≡ true → Changed w old new i 0 (own_put name (own_value w old.cells v))

-- what a widget sees of a `remove` from one of its cells
abbrev pub SeesRemoved : ℕ → Cells → Cells → ℕ → List ℕ → Type 0
SeesRemoved w old new i name = visible_at w old.cells i ≡ true → Changed w old new i 0 (own_removed name)

-- what a widget sees of a `var_set` that ends at one of its scopes
abbrev pub SeesSet : ℕ → Cells → Cells → ℕ → List ℕ → Value → Type 0
SeesSet w old new from name v =
    IfSome (holder old.cells from name) (λ h. is_own_scope_at w old.cells h ≡ true
    → Assigned w old new h (own_set name (own_value w old.cells v)))

-- whether a look-up of a variable ends at a scope of the widget
abbrev pub is_held_by : ℕ → List PlainCell → ℕ → List ℕ → Bool
is_held_by w cells from name = option_map_or (is_of_at w cells) (holder cells from name) false
