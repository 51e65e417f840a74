-- What each call of the store does, and when it refuses.
use Rattle.std.specs.Prelude.{◌≡◌, ℕ, ◌+◌, ◌^◌, ◌<◌, ℤ, ◌+ℤ◌, unsigned_abs, nat_lt, Bool, true, false, List, [], ◌∷◌, ◌++◌, Option, None, Some, is_some, if◌then◌else◌, nat_eq, not, length, slice_get, map, filter, MatchOption}
use Rattle.std.specs.List.{IsDistinct}
use Rattle.std.specs.Option.{option_map_or, option_and_then}
use Rattle.std.specs.Str.{bytes_eq}
use Rattle.code_units.specs.declared.owner.Owner.{Owner}
use Rattle.code_units.specs.declared.owner.Owner.TheVariants as whose
use Rattle.store_cells.specs.declared.value.Value.{Value}
use Rattle.store_cells.specs.declared.value.Value.TheVariants as value
use Rattle.store_cells.specs.declared.value.Number.TheVariants as number
use Rattle.store_cells.specs.declared.kind.Form.TheVariants as form
use Rattle.store_cells.specs.declared.kind.FunParts.{FunParts}
use Rattle.store_cells.specs.declared.counts.Counts.{Counts}
use Rattle.store_cells.specs.declared.counts.StoreFault.{StoreFault}
use Rattle.store_cells.specs.declared.counts.StoreFault.TheVariants as fault
use Rattle.object_store.specs.declared.store.NewCell.{NewCell}
use Rattle.object_store.specs.declared.store.NewCell.TheVariants as new
use Rattle.store_cells.specs.Lists.{changed}
use Rattle.store_cells.specs.Cells.{Cells, PlainCell, chain, first_own, has_own, holder, is_bunch, is_bunch_at, is_scope_at, is_visible, prototypes, raw_cell, value_of, writer_in}
use Rattle.store_cells.specs.Arrays.{is_bad_length, is_length_of, keys_of, length_in, length_name, stored, without, written}
use Rattle.store_cells.specs.Shape.{AreElements, AreRefs}
use Rattle.store_cells.specs.Costs.{cost_refusal, paid}
use Rattle.store_cells.specs.Born.{HaveCells, IsScopeOf, array_cell, bunch_cells, made, new_cell, object_cell, raw_place, scope_cell, unset}
use Rattle.store_cells.specs.Host.{array_prototype, function_prototype, nothing_paid}

-- the slots that a write under a name costs a cell: one where the name is new
abbrev pub slots_for : List ℕ → PlainCell → ℕ
slots_for name c = if has_own name c then 0 else 1

-- the same for the cell at a place
abbrev pub slots_at : List PlainCell → ℕ → List ℕ → ℕ
slots_at cells i name = option_map_or (slots_for name) (slice_get cells i) 0

-- why a widget's `put` into a cell to which it may write is refused: `BadLength` before `Slots`
abbrev pub write_refusal : List Counts → List ℕ → Value → PlainCell → ℕ → Option StoreFault
write_refusal kept name v c w =
    if is_bad_length name v c then Some fault.BadLength else cost_refusal kept w 0 (slots_for name c)

-- why `put` into a cell is refused: `Closed` before `BadLength` before `Slots`
abbrev pub put_refusal_of : List Counts → List ℕ → Value → PlainCell → Option StoreFault
put_refusal_of kept name v c =
    option_map_or (write_refusal kept name v c) (writer_in c.owner c.form) (Some fault.Closed)

-- why `put` into the cell at a place is refused
abbrev pub put_refusal : Cells → ℕ → List ℕ → Value → Option StoreFault
put_refusal s i name v = option_map_or (put_refusal_of s.kept name v) (slice_get s.cells i) None

-- the counts after the cell's widget paid for a write under a name
abbrev pub kept_after : List Counts → List ℕ → PlainCell → List Counts
kept_after kept name c =
    option_map_or (λ w. changed kept w (paid 0 (slots_for name c) 0)) (writer_in c.owner c.form) kept

-- the store after `put`: the value stands under the name, and the slot of a new name is paid
abbrev pub put_done : Cells → ℕ → List ℕ → Value → Cells
put_done s i name v = record {
  cells = changed s.cells i (stored name v);
  kept = option_map_or (kept_after s.kept name) (slice_get s.cells i) s.kept;
}

-- A value was put under a name of the cell at a place.
pub record IsPut (old new : Cells) (i : ℕ) (name : List ℕ) (v : Value) : Type 0 where
  pub allowed : put_refusal old i name v ≡ None
  pub done : new ≡ put_done old i name v

-- why `put_paid` into a cell to which a widget may write is refused: the cell has the name, or a bad length
abbrev pub new_refusal : List ℕ → Value → PlainCell → Option StoreFault
new_refusal name v c =
    if has_own name c then Some fault.Closed else (if is_bad_length name v c then Some fault.BadLength else None)

-- why `put_paid` into a cell is refused
abbrev pub paid_refusal_of : List ℕ → Value → PlainCell → Option StoreFault
paid_refusal_of name v c =
    option_map_or (λ w. new_refusal name v c) (writer_in c.owner c.form) (Some fault.Closed)

-- why `put_paid` into the cell at a place is refused
abbrev pub paid_refusal : Cells → ℕ → List ℕ → Value → Option StoreFault
paid_refusal s i name v = option_map_or (paid_refusal_of name v) (slice_get s.cells i) None

-- the store after `put_paid`: the value stands under the name, and nothing is paid
abbrev pub paid_done : Cells → ℕ → List ℕ → Value → Cells
paid_done s i name v = record s { cells = changed s.cells i (stored name v) }

-- A value was put under a new name of the cell at a place, whose slot was paid before.
pub record IsPutPaid (old new : Cells) (i : ℕ) (name : List ℕ) (v : Value) : Type 0 where
  pub allowed : paid_refusal old i name v ≡ None
  pub done : new ≡ paid_done old i name v

-- whether no widget may write to a cell: it is a Bunch, or the host's
abbrev pub is_closed : PlainCell → Bool
is_closed c = not (is_some (writer_in c.owner c.form))

-- why `remove` is refused
abbrev pub remove_refusal : Cells → ℕ → Option StoreFault
remove_refusal s i = option_map_or (λ c. if is_closed c then Some fault.Closed else None) (slice_get s.cells i) None

-- what `remove` answers: false exactly for the `length` of an Array
abbrev pub removed : Cells → ℕ → List ℕ → Bool
removed s i name = option_map_or (λ c. not (is_length_of name c)) (slice_get s.cells i) true

-- the store after `remove`: the name is taken out, and nothing is paid
abbrev pub remove_done : Cells → ℕ → List ℕ → Cells
remove_done s i name = record s { cells = changed s.cells i (without name) }

-- A name was taken out of the cell at a place, or the answer says that it is an Array's `length`.
pub record IsRemoved (old new : Cells) (i : ℕ) (name : List ℕ) (answer : Bool) : Type 0 where
  pub allowed : remove_refusal old i ≡ None
  pub answered : answer ≡ removed old i name
  pub done : new ≡ remove_done old i name

-- the names of the cell at a place that `keys` lists
abbrev pub keys_at : List PlainCell → ℕ → List (List ℕ)
keys_at cells i = option_map_or keys_of (slice_get cells i) []

-- the store after `var_set`: the value stands in the innermost scope that has the name
abbrev pub var_done : Cells → ℕ → List ℕ → Value → Cells
var_done s i name v = record s {
  cells = option_map_or (λ h. changed s.cells h (written name v)) (holder s.cells i name) s.cells;
}

-- whether a whole number is one of the language, from -(2^53-1) to 2^53-1
abbrev pub is_number : ℤ → Bool
is_number z = nat_lt (unsigned_abs z) (2 ^ 53)

-- A variable had a whole number z, and has its sum with another, which is a number of the language.
pub record IsAdded (old new : Cells) (from : ℕ) (name : List ℕ) (by z : ℤ) : Type 0 where
  pub before : first_own name (chain old.cells from) ≡ Some (value.Num (number.Whole z))
  pub within : is_number (z +ℤ by) ≡ true
  pub done : new ≡ var_done old from name (value.Num (number.Whole (z +ℤ by)))

-- the store after `charge_slots` or `charge_units`: a widget paid so many slots and text units
abbrev pub unit_cost : Cells → ℕ → ℕ → ℕ → Cells
unit_cost s w n u = record s { kept = changed s.kept w (paid 0 n u) }

-- A widget paid slots and text units, which no limit refused.
pub record IsCharged (old new : Cells) (w slots units : ℕ) (refusal : Option StoreFault) : Type 0 where
  pub allowed : refusal ≡ None
  pub done : new ≡ unit_cost old w slots units

-- a page node has its cell: a new one last, where it had none
abbrev pub HasNode : Cells → Cells → ℕ → ℕ → Type 0
HasNode old new node id = MatchOption (raw_place node old.cells)
    ((id ≡ length old.cells) × (new ≡ record { cells = old.cells ++ raw_cell node ∷ []; kept = old.kept }))
    (λ i. (id ≡ i) × (new ≡ old))

-- an Array has a length
abbrev pub HasLength : PlainCell → Type 0
HasLength c = is_some (option_and_then length_in (value_of c.pairs length_name)) ≡ true

-- what an owner has paid: the host pays nothing
abbrev pub paid_by : List Counts → Owner → Option Counts
paid_by kept whose.Host = Some nothing_paid
paid_by kept (whose.Widget w) = slice_get kept w

-- the visible cells of an owner: the host has none
abbrev pub cells_by : List PlainCell → Owner → List PlainCell
cells_by cells whose.Host = []
cells_by cells (whose.Widget w) = filter (is_visible w) cells

-- the cells that `make` adds: an Array and a Function stand on the prototypes of their kinds
abbrev pub born : List PlainCell → ℕ → NewCell → List PlainCell
born cells w (new.Object proto) = new_cell w form.Object proto ∷ []
born cells w new.Array = new_cell w form.Array array_prototype ∷ []
born cells w (new.Function code fun declared scope) =
    let parts : FunParts = record { code = code; fun = fun; declared = declared; scope = scope } in
    new_cell w (form.Function parts) function_prototype ∷ []
born cells w (new.Scope outer names) = scope_cell w outer (unset names.items) ∷ []
born cells w (new.Bunch nodes) = bunch_cells cells w nodes.items
born cells w (new.ObjectWith proto pairs) = object_cell w proto pairs.items ∷ []
born cells w (new.ArrayWith values) = array_cell w values.items ∷ []
born cells w (new.ScopeWith outer pairs) = scope_cell w outer pairs.items ∷ []

-- the cells that `make` costs: none for a scope, else one
abbrev pub cells_for : NewCell → ℕ
cells_for (new.Scope outer names) = 0
cells_for (new.ScopeWith outer pairs) = 0
cells_for _ = 1

-- the slots that `make` costs: one for each first pair, element, name or node, and one more for a Scope and a Bunch
abbrev pub slots_of : NewCell → ℕ
slots_of (new.Scope outer names) = length names.items + 1
slots_of (new.Bunch nodes) = length nodes.items + 1
slots_of (new.ObjectWith proto pairs) = length pairs.items
slots_of (new.ArrayWith values) = length values.items
slots_of (new.ScopeWith outer pairs) = length pairs.items + 1
slots_of _ = 0

-- why `make` is refused: the widget cannot pay its cost
abbrev pub make_refusal : Cells → ℕ → NewCell → Option StoreFault
make_refusal s w n = cost_refusal s.kept w (cells_for n) (slots_of n)

-- the store after `make`: the new cells go last, and their cost is paid
abbrev pub make_done : Cells → ℕ → NewCell → Cells
make_done s w n = made s w (born s.cells w n) (cells_for n) (slots_of n)

-- A widget paid for new cells, which go last; the first of them has this place.
pub record Adds (old new : Cells) (w id : ℕ) (more : List PlainCell) (c n : ℕ) : Type 0 where
  pub paid : cost_refusal old.kept w c n ≡ None
  pub place : id ≡ length old.cells
  pub done : new ≡ made old w more c n

-- a widget made a cell
abbrev pub IsMade : Cells → Cells → ℕ → ℕ → NewCell → Type 0
IsMade old new w id n = Adds old new w id (born old.cells w n) (cells_for n) (slots_of n)

-- A cell that may be a prototype: it exists, is neither a Scope nor a Bunch, and its chain has fewer than 100 links
pub record IsPrototype (cells : List PlainCell) (i : ℕ) : Type 0 where
  pub within : i < length cells
  pub object : is_scope_at cells i ≡ false
  pub unbunched : is_bunch_at cells i ≡ false
  pub few : prototypes cells i < 100

-- First pairs: their names differ, and each reference is to a cell of the store
pub record AreFirstPairs (cells : List PlainCell) (pairs : List (List ℕ × Value)) : Type 0 where
  pub distinct : IsDistinct bytes_eq (map (λ p. p.0) pairs)
  pub refs : AreRefs (length cells) pairs

-- what `make` asks: its cells exist, a prototype may be one, names differ, and so do nodes, which have cells
abbrev pub IsMakeable : List PlainCell → NewCell → Type 0
IsMakeable cells (new.Object proto) = IsPrototype cells proto
IsMakeable cells new.Array = Unit {0}
IsMakeable cells (new.Function code fun declared scope) = IsScopeOf cells scope
IsMakeable cells (new.Scope outer names) = IsScopeOf cells outer × IsDistinct bytes_eq names.items
IsMakeable cells (new.Bunch nodes) = IsDistinct nat_eq nodes.items × HaveCells cells nodes.items
IsMakeable cells (new.ObjectWith proto pairs) = IsPrototype cells proto × AreFirstPairs cells pairs.items
IsMakeable cells (new.ArrayWith values) = AreElements (length cells) values.items
IsMakeable cells (new.ScopeWith outer pairs) = IsScopeOf cells outer × AreFirstPairs cells pairs.items

-- the place at which a read of a cell begins: a Bunch hides its own pair, so at its prototype
abbrev pub read_start : List PlainCell → ℕ → Option ℕ
read_start cells i = option_and_then (λ c. if is_bunch c.form then c.up else Some i) (slice_get cells i)

-- the cells through which a read of a cell looks, in order
abbrev pub readable : List PlainCell → ℕ → List PlainCell
readable cells i = option_map_or (chain cells) (read_start cells i) []
