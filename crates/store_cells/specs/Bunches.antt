-- Bunches: a visible cell of a widget with one property, a hidden Array of the host, whose elements
-- refer to the cells of page nodes.
use Rattle.std.specs.Prelude.{◌≡◌, ℕ, suc, true, List, [], ◌∷◌, Option, Some, map, nat_eq, length, slice_get}
use Rattle.std.specs.Fmt.{decimal}
use Rattle.std.specs.List.{IsDistinct}
use Rattle.std.specs.Option.{option_and_then}
use Rattle.code_units.specs.declared.owner.Owner.TheVariants as whose
use Rattle.store_cells.specs.declared.value.Value.{Value}
use Rattle.store_cells.specs.declared.value.Value.TheVariants as value
use Rattle.store_cells.specs.declared.kind.Form.TheVariants as form
use Rattle.store_cells.specs.Cells.{PlainCell, is_bunch, node_in, form_at}
use Rattle.store_cells.specs.Arrays.{length_name, nodes_name, count_value}
use Rattle.store_cells.specs.Host.{array_prototype, bunch_prototype}

-- values as the elements of an Array, from an index on
abbrev pub elements : ℕ → List Value → List (List ℕ × Value)
elements k [] = []
elements k (v ∷ vs) = (decimal k, v) ∷ elements (suc k) vs

-- the pairs of an Array of these elements
abbrev pub array_pairs : List Value → List (List ℕ × Value)
array_pairs vs = (length_name, count_value (length vs)) ∷ elements 0 vs

-- a hidden Array of these references
abbrev pub hidden_array : List ℕ → PlainCell
hidden_array refs = record {
  owner = whose.Host;
  form = form.Array;
  up = Some array_prototype;
  pairs = array_pairs (map value.Ref refs);
}

-- a widget's Bunch, by the place of its hidden Array
abbrev pub bunch_cell : ℕ → ℕ → PlainCell
bunch_cell w array = record {
  owner = whose.Widget w;
  form = form.Bunch;
  up = Some bunch_prototype;
  pairs = (nodes_name, value.Ref array) ∷ [];
}

-- the page node of the cell at a place
abbrev pub node_at : List PlainCell → ℕ → Option ℕ
node_at cells i = option_and_then node_in (form_at cells i)

-- the cells at these places are the RawNodes of these nodes
abbrev pub AreCellsOf : List PlainCell → List ℕ → List ℕ → Type 0
AreCellsOf cells [] [] = Unit {0}
AreCellsOf cells (r ∷ rs) (n ∷ ns) = (node_at cells r ≡ Some n) × AreCellsOf cells rs ns
AreCellsOf cells _ _ = ⊥

-- A Bunch has its hidden Array alone, whose elements refer to the cells of distinct nodes.
pub record IsBunch (cells : List PlainCell) (c : PlainCell) : Type 0 where
  pub array : ℕ
  pub refs : List ℕ
  pub nodes : List ℕ
  pub pairs : c.pairs ≡ (nodes_name, value.Ref array) ∷ []
  pub hidden : slice_get cells array ≡ Some (hidden_array refs)
  pub lead : AreCellsOf cells refs nodes
  pub distinct : IsDistinct nat_eq nodes

-- Each Bunch of the store is one.
pub record AreBunches (cells : List PlainCell) : Type 0 where
  pub each : (i : ℕ) (c : PlainCell) → slice_get cells i ≡ Some c → is_bunch c.form ≡ true → IsBunch cells c
