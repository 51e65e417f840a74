-- The host's cells by number, before they have properties.
use Rattle.std.specs.Prelude.{◌≡◌, ℕ, ◌+◌, Bool, true, false, List, [], ◌∷◌, ◌++◌, Option, None, Some, nat_lt, not, ◌&&◌, map, fold, codes, take, drop}
use denote.Ref.{Bor}
use Rattle.std.specs.List.{list_all}
use Rattle.code_units.specs.declared.owner.Owner.TheVariants as whose
use Rattle.store_cells.specs.declared.kind.Form.{Form}
use Rattle.store_cells.specs.declared.kind.Form.TheVariants as form
use Rattle.permitted_table.specs.declared.native.NativeId.TheVariants as native
use Rattle.store_cells.specs.declared.cell.Head.{Head}
use Rattle.store_cells.specs.Numbered.{NumberedCell, node_head, cells_of, heads}
use Rattle.permitted_table.specs.declared.native.NativeId.{NativeId}
use Rattle.permitted_table.specs.declared.table.Home.{Home}
use Rattle.permitted_table.specs.declared.table.Home.TheVariants as homes
use Rattle.permitted_table.specs.Natives.{Row, number_of, rows as table_rows}
use Rattle.permitted_table.specs.Table.{has_own_property}
use Rattle.store_cells.specs.Lists.{changed}
use Rattle.store_cells.specs.Host.{global, body, math, adsafe, number_prototype, boolean_prototype, first_native, object_prototype, function_prototype, host_cells, place_of}
use Rattle.store_cells.specs.Shape.{IsBase, Wrote}
use Rattle.store_cells.specs.declared.value.Value.{Value}
use Rattle.store_cells.specs.declared.value.Value.TheVariants as value
use Rattle.store_cells.specs.declared.value.Number.TheVariants as number
use Rattle.store_cells.specs.Cells.{PlainCell, is_array}
use Rattle.store_cells.specs.Arrays.{written}

-- A row as the code has it.
abbrev pub CodeRow : Type 0
CodeRow = Home × Bor (List ℕ) × NativeId

-- the cell of a home
abbrev pub home_place : Home → ℕ
home_place homes.Globals = global
home_place (homes.Of e) = place_of e

-- A property of a host cell: the cell, the name, the value.
abbrev pub Gift : Type 0
Gift = ℕ × List ℕ × Value

-- the property that is a native of its home
abbrev pub native_gift : Row → Gift
native_gift r = (home_place r.0, r.1, value.Ref (first_native + number_of r.2))

-- the cells after a property was given
abbrev pub given : List PlainCell → Gift → List PlainCell
given cells g = changed cells g.0 (written g.1 g.2)

-- whether a form is one that the host's cells have
abbrev pub is_host_form : Form → Bool
is_host_form form.Object = true
is_host_form (form.Native n) = true
is_host_form form.Global = true
is_host_form _ = false

-- the fixed part of a cell of the host
abbrev pub host_head : Option ℕ → ℕ → Form → Head
host_head up links f = record { owner = whose.Host; form = f; up = up; links = links; number = 0 }

-- a cell of the host without properties
abbrev pub host_numbered : Option ℕ → ℕ → Form → NumberedCell
host_numbered up links f = record { head = host_head up links f; elements = []; references = 0; entries = [] }

-- a new RawNode of a page node
abbrev pub node_numbered : ℕ → NumberedCell
node_numbered n = record { head = node_head n; elements = []; references = 0; entries = [] }

-- the cells of natives, each in a row with its home and its name there
abbrev pub native_cells : {N : Type 0} → List (Home × N × NativeId) → List NumberedCell
native_cells rows = map (λ r. host_numbered (Some function_prototype) 2 (form.Native r.2)) rows

-- the properties that the rows of a table of natives are
abbrev pub native_gifts : List CodeRow → List Gift
native_gifts rows = map (λ r. (home_place r.0, r.1.now, value.Ref (first_native + number_of r.2))) rows

-- the properties that the rows of a table of references are
abbrev pub references_as_gifts : List (ℕ × Bor (List ℕ) × ℕ) → List Gift
references_as_gifts rows = map (λ r. (r.0, r.1.now, value.Ref r.2)) rows

-- whether each row has its home and its native among so many cells
abbrev pub are_natives_within : {N : Type 0} → ℕ → List (Home × N × NativeId) → Bool
are_natives_within size rows = list_all (λ r. nat_lt (home_place r.0) size && nat_lt (first_native + number_of r.2) size) rows

-- whether each row has its home and its reference among so many cells
abbrev pub are_references_within : {N : Type 0} → ℕ → List (ℕ × N × ℕ) → Bool
are_references_within size rows = list_all (λ r. nat_lt r.0 size && nat_lt r.2 size) rows

-- the host's cells without properties in the order of their places; the natives with a home come last
abbrev pub bare_of : List NumberedCell → List NumberedCell
bare_of natives =
    ((((((([] ++ map (host_numbered None 0) (form.Global ∷ []))
    ++ node_numbered 0 ∷ [])
    ++ map (host_numbered None 0) (form.Object ∷ []))
    ++ map (host_numbered (Some object_prototype) 1) (form.Object ∷ form.Object ∷ form.Object ∷ form.Object ∷ []))
    ++ map (host_numbered None 0) (form.Object ∷ form.Object ∷ []))
    ++ map (host_numbered (Some object_prototype) 1) (form.Object ∷ form.Object ∷ form.Object ∷ []))
    ++ map (host_numbered (Some function_prototype) 2) (form.Native native.Bubble ∷ [])) ++ natives

-- the host's cells without properties
unfoldable pub bare_numbered : List NumberedCell
bare_numbered = bare_of (native_cells table_rows)

-- cells of which the Global cell was given two primitives
abbrev pub with_primitives : List PlainCell → List PlainCell
with_primitives cells =
    given (given cells (global, codes "undefined", value.Undefined)) (global, codes "NaN", value.Num number.NaN)

-- cells with the properties of two lists, between which the Global cell is given its primitives
unfoldable pub with_gifts : List Gift → List Gift → List PlainCell → List PlainCell
with_gifts natives references cells = fold given (with_primitives (fold given cells natives)) references

-- the properties that refer to cells other than natives of their own
abbrev pub reference_gifts : List Gift
reference_gifts =
    (global, codes "Math", value.Ref math) ∷ (global, codes "ADSAFE", value.Ref adsafe) ∷ (global, codes "document", value.Ref body)
    ∷ (number_prototype, has_own_property.0, value.Ref (place_of has_own_property.1))
    ∷ (boolean_prototype, has_own_property.0, value.Ref (place_of has_own_property.1)) ∷ []

-- whether none of the cells is an Array
abbrev pub no_arrays : List Head → Bool
no_arrays hs = list_all (λ h. not (is_array h.form)) hs

-- a cell was given a property
abbrev pub IsGiven : List (List ℕ) → List NumberedCell → List (List ℕ) → List NumberedCell → ℕ → List ℕ → Value → Type 0
IsGiven old cs new after home name v = Wrote old cs new after home (written name v)

-- The host's cells of a new store, by number.
pub record AreFirst (names : List (List ℕ)) (cs : List NumberedCell) : Type 0 where
  pub done : cells_of names cs ≡ host_cells
  pub base : IsBase names cs
  pub heads : heads cs ≡ heads bare_numbered
