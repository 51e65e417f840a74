-- What a widget can get at, read from the cells of the store and from its handlers and timers. Each reference is told by the cell to which it leads, whoever that belongs to.
use Rattle.std.specs.Prelude.{ℕ, ◌++◌, Bool, true, false, List, [], ◌∷◌, Option, None, Some, if◌then◌else◌, filter, map, option_to_list, slice_get, slice_index_or}
use Rattle.std.specs.List.{flat_map}
use Rattle.std.specs.Option.{option_and_then, option_map_or}
use Rattle.code_units.specs.Permitted.{is_permitted}
use Rattle.code_units.specs.declared.owner.Owner.{Owner}
use Rattle.store_cells.specs.declared.kind.Form.{Form}
use Rattle.store_cells.specs.declared.kind.Form.TheVariants as form
use Rattle.store_cells.specs.declared.value.Value.{Value}
use Rattle.store_cells.specs.declared.value.Value.TheVariants as value
use Rattle.store_cells.specs.Cells.{PlainCell, first_own, is_visible, own_number_of, proto_in, widget_of}
use Rattle.store_cells.specs.Host.{is_permitted_cell}
use Rattle.object_store.specs.Calls.{readable}
use Rattle.object_store.specs.Owned.{is_own_scope}
use Rattle.event_loop.specs.declared.around.Loop.{Loop}
use Rattle.event_loop.specs.Around.{kept, timers}
use Rattle.event_loop.specs.Timers.{by_due}
use Rattle.page_tree.specs.declared.page.Page.{Page}
use Rattle.page_image.specs.Image.{own}
use Rattle.reach_cert.specs.declared.cert.Ref.{Ref}
use Rattle.reach_cert.specs.declared.cert.Ref.TheVariants as ref
use Rattle.reach_cert.specs.declared.cert.RowKind.{RowKind}
use Rattle.reach_cert.specs.declared.cert.RowKind.TheVariants as row
use Rattle.reach_cert.specs.Certs.{Row, Slot, Shown}

-- the kind of a visible cell
abbrev pub row_kind : Form → RowKind
row_kind form.Array = row.Array
row_kind (form.Function p) = row.Function
row_kind form.Bunch = row.Bunch
row_kind _ = row.Object

-- whether a form is that of the Global cell
abbrev pub is_global : Form → Bool
is_global form.Global = true
is_global _ = false

-- the name with which a certificate has the cells of an owner, from a list of the names by widgets: none for the host, and for a widget without lines in it
abbrev pub name_of : List (Option (List ℕ)) → Owner → Option (List ℕ)
name_of names o = option_and_then (λ w. slice_index_or names w None) (widget_of o)

-- a cell by the name of its widget and its number there; what has no line of its own counts as `raw`: besides the RawNode of a page node it is the hidden Array of a Bunch, a scope, or a cell of a widget without lines
abbrev pub lined : Option (List ℕ) → Option ℕ → Ref
lined (Some name) (Some number) = ref.Cell name number
lined (Some name) None = ref.Raw
lined None number = ref.Raw

module _ (names : List (Option (List ℕ))) (cells : List PlainCell) where
  -- the cell at a place that is not of the permitted table
  abbrev pub other_ref : ℕ → PlainCell → Ref
  other_ref i c = if is_global c.form then ref.Global else lined (name_of names c.owner) (own_number_of cells i c)

  -- a reference to the cell at a place; where there is no cell it counts as `raw` too
  abbrev pub ref_at : ℕ → Ref
  ref_at i = if is_permitted_cell i then ref.Host else option_map_or (other_ref i) (slice_get cells i) ref.Raw

  -- the references in a value: a primitive has none
  abbrev pub value_refs : Value → List Ref
  value_refs (value.Ref i) = ref_at i ∷ []
  value_refs _ = []

  -- those of pairs, in their order
  abbrev pub pair_refs : List (List ℕ × Value) → List Ref
  pair_refs ps = flat_map (λ p. value_refs p.1) ps

  -- those of the first own value under a name, from the cell at a place on
  abbrev pub named_refs : ℕ → List ℕ → List Ref
  named_refs i name = flat_map value_refs (option_to_list (first_own name (readable cells i)))

  -- those of a pair under a permitted name
  abbrev pub open_refs : List ℕ × Value → List Ref
  open_refs p = if is_permitted p.0 then value_refs p.1 else []

  -- the line of a visible cell: its prototype, and then the references under permitted names in order of insertion
  abbrev pub cell_row : PlainCell → Row
  cell_row c = record { kind = row_kind c.form; refs = map ref_at (option_to_list (proto_in c)) ++ flat_map open_refs c.pairs }

  -- the lines of a widget's visible cells by birth, among some cells
  abbrev pub cell_rows : ℕ → List PlainCell → List Row
  cell_rows w cs = map cell_row (filter (is_visible w) cs)

  -- what a widget's scopes hold, by birth and in the order of their names, among some cells
  abbrev pub scope_refs : ℕ → List PlainCell → List Ref
  scope_refs w cs = flat_map (λ (c : PlainCell). pair_refs c.pairs) (filter (is_own_scope w) cs)

  -- what its handlers hold, by nodes and in order of listening
  abbrev pub handler_refs : Loop → List ℕ → List Ref
  handler_refs l nodes = flat_map (λ n. map (λ h. ref_at h.1) (kept l n).handlers) nodes

  -- what its timers hold, by due time and start
  abbrev pub timer_refs : Loop → List Ref
  timer_refs l = map (λ t. ref_at t.func) (by_due (timers l))

  -- all that a widget holds: its scopes, its handlers and its timers
  abbrev pub held_refs : ℕ → Page → Loop → List Ref
  held_refs w p l = scope_refs w cells ++ (handler_refs l (own p w) ++ timer_refs l)

  -- what the certificate has of a widget with this name
  unfoldable pub read_slot : List ℕ → ℕ → Page → Loop → Slot
  read_slot name w p l = Shown name (cell_rows w cells) (held_refs w p l)
