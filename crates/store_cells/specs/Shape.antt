-- What every store keeps.
use Rattle.std.specs.Prelude.{◌≡◌, ℕ, suc, ◌<◌, ◌≤◌, Bool, true, false, List, [], ◌∷◌, ◌++◌, Option, Some, is_some, nat_eq, if◌then◌else◌, length, map, position, slice_get, unwrap_or, IfSome}
use Rattle.std.specs.Option.{option_map_or, option_and_then}
use Rattle.std.specs.List.{AllByRecursion, count_by}
use Rattle.std.specs.Map.{lookup}
use Rattle.code_units.specs.declared.owner.Owner.TheVariants as whose
use Rattle.keyed_names.specs.Interned.{IsTable}
use Rattle.store_cells.specs.declared.value.Value.{Value}
use Rattle.store_cells.specs.declared.value.Value.TheVariants as value
use Rattle.store_cells.specs.declared.kind.Form.{Form}
use Rattle.store_cells.specs.declared.kind.Form.TheVariants as form
use Rattle.store_cells.specs.declared.cell.Head.{Head}
use Rattle.store_cells.specs.declared.counts.Counts.{Counts}
use Rattle.store_cells.specs.declared.counts.TheConstants.{CELL_LIMIT, SLOT_LIMIT, UNIT_LIMIT}
use Rattle.store_cells.specs.Lists.{changed, count_before}
use Rattle.store_cells.specs.Cells.{PlainCell, kept_cells, is_bunch, is_bunch_at, is_visible_form, is_scope_at, is_scope, is_array, is_raw, widget_of, node_in, function_in}
use Rattle.code_units.specs.Indices.{index_of}
use Rattle.store_cells.specs.Arrays.{length_in, length_name, nodes_name, count_value}
use Rattle.store_cells.specs.Host.{AreHost, array_prototype}
use Rattle.store_cells.specs.Bunches.{AreBunches, elements}
use Rattle.store_cells.specs.declared.cell.Write.{Write}
use Rattle.store_cells.specs.Numbered.{NumberedCell, found_in, name_at, named, heads, is_length_in, numbered_holder, own_head, plan_of, cells_of, references_in}

-- a reference is to one of so many cells
abbrev pub IsRefWithin : ℕ → Value → Type 0
IsRefWithin size (value.Ref i) = i < size
IsRefWithin size _ = Unit {0}

-- each name of the pairs is one of so many, and each reference is to one of so many cells
abbrev pub AreEntries : ℕ → ℕ → List (ℕ × Value) → Type 0
AreEntries n size es = AllByRecursion (λ e. (e.0 < n) × IsRefWithin size e.1) es

-- each name of the pairs is one of so many
abbrev pub Known : ℕ → List (ℕ × Value) → Type 0
Known n es = AllByRecursion (λ e. e.0 < n) es

-- each name of each cell is one of so many
abbrev pub AreKnown : ℕ → List NumberedCell → Type 0
AreKnown n cs = AllByRecursion (λ c. Known n c.entries) cs

-- each name of the pairs that is an index is noted as it
abbrev pub AreNoted : List (List ℕ) → (ℕ → Option ℕ) → List (ℕ × Value) → Type 0
AreNoted names index es = AllByRecursion (λ e. (i : ℕ) → index_of (name_at names e.0) ≡ Some i → index i ≡ Some e.0) es

-- What is noted as an index is the number of its name, and each name of the pairs that is an index is noted.
pub record IsIndexed (names : List (List ℕ)) (index : ℕ → Option ℕ) (entries : List (ℕ × Value)) : Type 0 where
  pub named : (i n : ℕ) → index i ≡ Some n → index_of (name_at names n) ≡ Some i
  pub noted : AreNoted names index entries

-- An Array has a length, its elements are found by their indices, and those that refer to cells are counted.
pub record IsArrayTable (names : List (List ℕ)) (c : NumberedCell) : Type 0 where
  pub length : is_some (option_and_then length_in (lookup (nat_eq 0) c.entries)) ≡ true
  pub indexed : IsIndexed names (found_in c.elements) c.entries
  pub counted : c.references ≡ references_in names c.entries

-- A cell's names are in the table, its references exist, and an Array is one.
pub record IsWellFormed (names : List (List ℕ)) (size : ℕ) (c : NumberedCell) : Type 0 where
  pub entries : AreEntries (length names) size c.entries
  pub array : is_array c.head.form ≡ true → IsArrayTable names c

-- each cell's names are in the table, its references exist, and each Array is one
abbrev pub AreWellFormed : List (List ℕ) → ℕ → List NumberedCell → Type 0
AreWellFormed names size cs = AllByRecursion (IsWellFormed names size) cs

-- whether the cell at a place is a Scope
abbrev pub scope_at : List Head → ℕ → Bool
scope_at hs i = option_map_or (λ h. is_scope h.form) (slice_get hs i) false

-- whether the cell at a place is a Bunch
abbrev pub bunch_at : List Head → ℕ → Bool
bunch_at hs i = option_map_or (λ h. is_bunch h.form) (slice_get hs i) false

-- the number of prototypes of the cell at a place
abbrev pub links_at : List Head → ℕ → ℕ
links_at hs i = option_map_or (λ h. h.links) (slice_get hs i) 0

-- the scope in which a function was made
abbrev pub scope_in : Form → Option ℕ
scope_in f = option_and_then (λ p. p.scope) (function_in f)

-- Prototypes are older and neither scopes nor Bunches, and outer scopes are older scopes, so no chain has a cycle;
-- a cell of a widget has a prototype; a chain has at most 100, and a cell's number is its place among its owner's.
pub record IsOrdered (hs : List Head) (i : ℕ) (h : Head) : Type 0 where
  pub up : IfSome h.up (λ j. (j < i) × (scope_at hs j ≡ is_scope h.form))
  pub scope : IfSome (scope_in h.form) (λ j. (j < i) × (scope_at hs j ≡ true))
  pub links : h.links ≡ (if is_scope h.form then 0 else option_map_or (λ j. suc (links_at hs j)) h.up 0)
  pub few : h.links ≤ 100
  pub below : h.links ≤ i
  pub owned : is_scope h.form ≡ true → is_some (widget_of h.owner) ≡ true
  pub based : is_some (widget_of h.owner) ≡ true → is_scope h.form ≡ false → is_some h.up ≡ true
  pub unbunched : is_scope h.form ≡ false → IfSome h.up (λ j. bunch_at hs j ≡ false)
  pub number : (w : ℕ) → own_head w h ≡ true → h.number ≡ count_before (own_head w) hs i

-- Each cell's prototype or outer scope is older than it and of its sort, and its number is its place.
pub record AreOrdered (hs : List Head) : Type 0 where
  pub each : (i : ℕ) (h : Head) → slice_get hs i ≡ Some h → IsOrdered hs i h

-- the place of the RawNode of a page node
abbrev pub node_head_at : ℕ → List Head → Option ℕ
node_head_at n hs = position (λ h. is_raw n h.form) hs

-- Each node has at most one RawNode, which the index finds.
pub record AreRaws (hs : List Head) (raws : List (ℕ × ℕ)) : Type 0 where
  pub found : (n : ℕ) → lookup (nat_eq n) raws ≡ node_head_at n hs
  pub one : (i n : ℕ) (h : Head) → slice_get hs i ≡ Some h → node_in h.form ≡ Some n → node_head_at n hs ≡ Some i

-- Two names have fixed numbers.
pub record AreWords (names : List (List ℕ)) : Type 0 where
  pub length : slice_get names 0 ≡ Some length_name
  pub nodes : slice_get names 1 ≡ Some nodes_name

-- What names and cells keep.
pub record IsBase (names : List (List ℕ)) (cs : List NumberedCell) : Type 0 where
  pub table : IsTable names
  pub words : AreWords names
  pub fine : AreWellFormed names (length cs) cs
  pub ordered : AreOrdered (heads cs)

-- each count of each widget is within its limit
abbrev pub AreWithin : List Counts → Type 0
AreWithin kept = AllByRecursion (λ k. (k.cells ≤ CELL_LIMIT) × (k.slots ≤ SLOT_LIMIT) × (k.units ≤ UNIT_LIMIT)) kept

-- The closed cells: those of the host that every store has, and Bunches with their hidden Arrays.
pub record AreClosed (cells : List PlainCell) : Type 0 where
  pub host : AreHost cells
  pub bunches : AreBunches cells

-- What every store keeps: the host's cells and Bunches stay closed, each page node has at most one RawNode, and each
-- widget's count of cells is exact and within the limit, as its other counts are.
pub record IsShape (names : List (List ℕ)) (cs : List NumberedCell) (raws : List (ℕ × ℕ)) (kept : List Counts)
    : Type 0 where
  pub base : IsBase names cs
  pub closed : AreClosed (cells_of names cs)
  pub nodes : AreRaws (heads cs) raws
  pub counted : length kept ≡ 32
  pub within : AreWithin kept
  pub exact : (w : ℕ) → w < 32 → kept_cells kept w ≡ count_by (own_head w) (heads cs)

-- A cell was written: the others, the names of all and what they keep are as before.
pub record Wrote (old : List (List ℕ)) (cs : List NumberedCell) (new : List (List ℕ)) (after : List NumberedCell)
    (i : ℕ) (f : PlainCell → PlainCell) : Type 0 where
  pub done : cells_of new after ≡ changed (cells_of old cs) i f
  pub base : IsBase new after
  pub heads : heads after ≡ heads cs

-- the write of a value under a name of the cell at a place goes as planned
abbrev pub IsPlanned : List NumberedCell → ℕ → List ℕ → Value → Write → Type 0
IsPlanned cs i name v plan = (c : NumberedCell) → slice_get cs i ≡ Some c → plan_of name v c ≡ Some plan

-- a name may be taken out of the cell at a place: it is not the `length` of an Array
abbrev pub IsTakeable : List NumberedCell → ℕ → List ℕ → Type 0
IsTakeable cs i name = (c : NumberedCell) → slice_get cs i ≡ Some c → is_length_in c name ≡ false

-- what an index of the cells of page nodes says of some nodes: the places of their cells, 0 where there is none
abbrev pub node_places : List (ℕ × ℕ) → List ℕ → List ℕ
node_places raws nodes = map (λ n. unwrap_or (lookup (nat_eq n) raws) 0) nodes

-- A variable by its number: a look-up from some Scope on ends at this place.
pub record IsVariable (cs : List NumberedCell) (n i : ℕ) : Type 0 where
  pub from : ℕ
  pub scope : scope_at (heads cs) from ≡ true
  pub found : numbered_holder cs from n ≡ Some i

-- No cell was written, though names may have come. (`Kept` of `js_image` is what a call keeps for its widget.)
pub record Kept (old : List (List ℕ)) (cs : List NumberedCell) (new : List (List ℕ)) (after : List NumberedCell)
    : Type 0 where
  pub done : cells_of new after ≡ cells_of old cs
  pub base : IsBase new after
  pub heads : heads after ≡ heads cs

-- A cell was added.
pub record Added (old : List (List ℕ)) (cs : List NumberedCell) (new : List (List ℕ)) (after : List NumberedCell)
    (c : NumberedCell) (id : ℕ) : Type 0 where
  pub place : id ≡ length cs
  pub items : after ≡ cs ++ c ∷ []
  pub base : IsBase new after

-- A cell was added by name, with its fixed part.
pub record Grew (old : List (List ℕ)) (cs : List NumberedCell) (new : List (List ℕ)) (after : List NumberedCell)
    (p : PlainCell) (h : Head) : Type 0 where
  pub done : cells_of new after ≡ cells_of old cs ++ p ∷ []
  pub base : IsBase new after
  pub heads : heads after ≡ heads cs ++ h ∷ []

-- the fixed part of a widget's new cell on a prototype
abbrev pub head_on : List Head → ℕ → Form → ℕ → ℕ → Head
head_on hs w f up number =
    record { owner = whose.Widget w; form = f; up = Some up; links = suc (links_at hs up); number = number }

-- the fixed part of the hidden Array of a Bunch
abbrev pub hidden_head : List Head → Head
hidden_head hs = record {
  owner = whose.Host;
  form = form.Array;
  up = Some array_prototype;
  links = suc (links_at hs array_prototype);
  number = 0;
}

-- the fixed part of a widget's new scope
abbrev pub scope_head : ℕ → Option ℕ → Head
scope_head w outer = record { owner = whose.Widget w; form = form.Scope; up = outer; links = 0; number = 0 }

-- The form of a new visible cell that is no Bunch: the scope of a function exists.
pub record IsNewForm (cells : List PlainCell) (f : Form) : Type 0 where
  pub visible : is_visible_form f ≡ true
  pub no_bunch : is_bunch f ≡ false
  pub scope : IfSome (scope_in f) (λ j. (j < length cells) × (is_scope_at cells j ≡ true))

-- each reference of the pairs is to one of so many cells
abbrev pub AreRefs : ℕ → List (List ℕ × Value) → Type 0
AreRefs size ps = AllByRecursion (λ p. IsRefWithin size p.1) ps

-- each reference of the values is to one of so many cells
abbrev pub AreElements : ℕ → List Value → Type 0
AreElements size vs = AllByRecursion (IsRefWithin size) vs

-- An Array of so many elements, of which it has these.
pub record IsArrayOf (names : List (List ℕ)) (h : Head) (count : ℕ) (vs : List Value) (c : NumberedCell) : Type 0 where
  pub head : c.head ≡ h
  pub indexed : IsIndexed names (found_in c.elements) c.entries
  pub counted : c.references ≡ references_in names c.entries
  pub known : Known (length names) c.entries
  pub pairs : named names c.entries ≡ (length_name, count_value count) ∷ elements 0 vs

-- A Bunch and its hidden Array were added.
pub record GrewBunch (old : List (List ℕ)) (cs : List NumberedCell) (new : List (List ℕ)) (after : List NumberedCell)
    (p q : PlainCell) (h k : Head) : Type 0 where
  pub done : cells_of new after ≡ cells_of old cs ++ p ∷ q ∷ []
  pub base : IsBase new after
  pub heads : heads after ≡ heads cs ++ h ∷ k ∷ []

-- What a cell of the store keeps: its references exist, its prototype or outer scope is older and of its sort, the
-- scope of a function is an older Scope, and a Scope is a widget's.
pub record IsLinked (cells : List PlainCell) (i : ℕ) (c : PlainCell) : Type 0 where
  pub refs : AreRefs (length cells) c.pairs
  pub up : IfSome c.up (λ j. (j < i) × (is_scope_at cells j ≡ is_scope c.form))
  pub scope : IfSome (scope_in c.form) (λ j. (j < i) × (is_scope_at cells j ≡ true))
  pub owned : is_scope c.form ≡ true → is_some (widget_of c.owner) ≡ true

-- What a cell of a widget that is no Scope has: a prototype, which is no Bunch.
pub record HasPrototype (cells : List PlainCell) (c : PlainCell) : Type 0 where
  pub based : is_some c.up ≡ true
  pub unbunched : IfSome c.up (λ j. is_bunch_at cells j ≡ false)
