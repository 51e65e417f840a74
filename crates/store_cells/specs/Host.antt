-- The host's cells that every store has: the Global cell, the cell of `body`, and the permitted
-- table of prototypes, objects and natives.
use Rattle.std.specs.Prelude.{◌≡◌, ℕ, ◌+◌, ◌<◌, ◌≤◌, List, [], ◌∷◌, ◌++◌, None, Bool, true, false, map, codes, replicate, length, slice_get, nat_le, nat_lt, ◌&&◌}
use Rattle.std.specs.List.{list_all}
use Rattle.std.specs.Option.{option_map, option_map_or}
use Rattle.code_units.specs.declared.owner.Owner.{Owner}
use Rattle.code_units.specs.declared.owner.Owner.TheVariants as whose
use Rattle.permitted_table.specs.declared.native.HostEntry.{HostEntry}
use Rattle.permitted_table.specs.declared.native.HostEntry.TheVariants as entry
use Rattle.permitted_table.specs.declared.table.TheConstants.{COUNT}
use Rattle.permitted_table.specs.Natives.{number_of}
use Rattle.permitted_table.specs.Table.{Global, Leads, NaN, Undefined, entries, globals, names_of, prototype_of}
use Rattle.store_cells.specs.declared.value.Value.{Value}
use Rattle.store_cells.specs.declared.value.Value.TheVariants as value
use Rattle.store_cells.specs.declared.value.Number.TheVariants as number
use Rattle.store_cells.specs.declared.kind.Form.{Form}
use Rattle.store_cells.specs.declared.kind.Form.TheVariants as form
use Rattle.store_cells.specs.declared.counts.Counts.{Counts}
use Rattle.store_cells.specs.Cells.{Cells, PlainCell, raw_cell}

-- the place of the Global cell
abbrev pub global : ℕ
global = 0

-- the place of the RawNode of `body`
abbrev pub body : ℕ
body = 1

-- the place of the prototype of Objects
abbrev pub object_prototype : ℕ
object_prototype = 2

-- the place of the prototype of Arrays
abbrev pub array_prototype : ℕ
array_prototype = 3

-- the place of the prototype of Functions
abbrev pub function_prototype : ℕ
function_prototype = 4

-- the place of the prototype of Bunches
abbrev pub bunch_prototype : ℕ
bunch_prototype = 5

-- the place of the prototype of texts
abbrev pub text_prototype : ℕ
text_prototype = 6

-- the place of the prototype of numbers
abbrev pub number_prototype : ℕ
number_prototype = 7

-- the place of the prototype of truth values
abbrev pub boolean_prototype : ℕ
boolean_prototype = 8

-- the place of `Math`
abbrev pub math : ℕ
math = 9

-- the place of `ADSAFE`
abbrev pub adsafe : ℕ
adsafe = 10

-- the place of `dom`
abbrev pub dom : ℕ
dom = 11

-- the place of the first native; the others follow in order
abbrev pub first_native : ℕ
first_native = 12

-- the place of an entry of the permitted table
abbrev pub place_of : HostEntry → ℕ
place_of entry.ObjectPrototype = object_prototype
place_of entry.ArrayPrototype = array_prototype
place_of entry.FunctionPrototype = function_prototype
place_of entry.BunchPrototype = bunch_prototype
place_of entry.TextPrototype = text_prototype
place_of entry.NumberPrototype = number_prototype
place_of entry.BooleanPrototype = boolean_prototype
place_of entry.Math = math
place_of entry.Adsafe = adsafe
place_of entry.Dom = dom
place_of (entry.Native n) = first_native + number_of n

-- the form of an entry's cell: a native, or else an object
abbrev pub entry_form : HostEntry → Form
entry_form (entry.Native n) = form.Native n
entry_form _ = form.Object

-- the cell of an entry: its prototype and its names lead to cells of the table
abbrev pub entry_cell : HostEntry → PlainCell
entry_cell e = record {
  owner = whose.Host;
  form = entry_form e;
  up = option_map place_of (prototype_of e);
  pairs = map (λ p. (p.0, value.Ref (place_of p.1))) (names_of e);
}

-- a listed global as a value
abbrev pub global_value : Global → Value
global_value Undefined = value.Undefined
global_value NaN = value.Num number.NaN
global_value (Leads e) = value.Ref (place_of e)

-- the Global cell: the listed globals, and `document`, which is the cell of `body`
abbrev pub global_cell : PlainCell
global_cell = record {
  owner = whose.Host;
  form = form.Global;
  up = None;
  pairs = map (λ p. (p.0, global_value p.1)) globals ++ (codes "document", value.Ref body) ∷ [];
}

-- the host's cells: the Global cell, the cell of `body`, and the entries of the permitted table
unfoldable pub host_cells : List PlainCell
host_cells = global_cell ∷ raw_cell 0 ∷ map entry_cell entries

-- how many cells the host has in each store
abbrev pub host_count : ℕ
host_count = first_native + COUNT

-- the counts of a widget that has paid nothing
abbrev pub nothing_paid : Counts
nothing_paid = record { cells = 0; slots = 0; units = 0 }

-- a new store: the host's cells alone, and no widget has paid
abbrev pub first_store : Cells
first_store = record { cells = host_cells; kept = replicate 32 nothing_paid }

-- whether the cell at a place is of the permitted table: all of the host's first cells but Global and `body`
abbrev pub is_permitted_cell : ℕ → Bool
is_permitted_cell i = nat_le object_prototype i && nat_lt i host_count

-- Every store begins with the host's cells, as they were made.
pub record AreHost (cells : List PlainCell) : Type 0 where
  pub enough : host_count ≤ length cells
  pub same : (i : ℕ) → i < host_count → slice_get cells i ≡ slice_get host_cells i

-- whether a value is a primitive, or a reference to a cell of the permitted table
abbrev pub is_permitted_value : Value → Bool
is_permitted_value (value.Ref i) = is_permitted_cell i
is_permitted_value _ = true

-- whether a form is one that cells of the permitted table have
abbrev pub is_frozen_form : Form → Bool
is_frozen_form form.Object = true
is_frozen_form (form.Native n) = true
is_frozen_form _ = false

-- whether an owner is the host
abbrev pub is_host_owner : Owner → Bool
is_host_owner whose.Host = true
is_host_owner _ = false

-- whether pairs lead to primitives and permitted cells alone
abbrev pub lead_on : List (List ℕ × Value) → Bool
lead_on ps = list_all (λ p. is_permitted_value p.1) ps

-- whether a cell is a frozen cell of the host that leads to primitives and permitted cells alone, also by its prototype
abbrev pub leads_on : PlainCell → Bool
leads_on c =
    is_host_owner c.owner && (is_frozen_form c.form && (option_map_or is_permitted_cell c.up true && lead_on c.pairs))
