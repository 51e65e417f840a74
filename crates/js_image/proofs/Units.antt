-- A cost that is paid in two parts, and what that keeps.
use Rattle.std.proofs.Common.{◌≡◌, ℕ, ◌+◌, ◌<◌, ◌≤◌, List, length, refl, sym, ap, ◌∙◌, subst, Option, Some, arith, Bool, true, false, if◌then◌else◌, slice_get}
use Rattle.std.specs.Prelude.{◌-◌, nat_lt}
use Rattle.std.proofs.lemmas.Bool.Decides.{nat_tests}
use Rattle.std.proofs.lemmas.List.{length-map}
use Rattle.js_tree.specs.Forest.{Forest}
use Rattle.store_cells.specs.declared.value.Value.{Value as StoreValue}
use Rattle.store_cells.specs.declared.counts.Counts.{Counts}
use Rattle.store_cells.specs.declared.counts.TheConstants.{UNIT_LIMIT}
use Rattle.store_cells.specs.Cells.{Cells}
use Rattle.object_store.specs.Grows.{Grows}
use Rattle.object_store.specs.Owned.{owned}
use Rattle.widget_meaning.specs.Limits.{max_cells, max_slots, max_units, max_nodes}
use Rattle.widget_meaning.specs.Values as meaning
use Rattle.widget_meaning.specs.Values.{Value}
use Rattle.widget_meaning.specs.OwnState.{Amounts, Cell, State, new_array, with_new_cell}
use Rattle.widget_meaning.specs.Plan.{Plan, Halt}
use Rattle.widget_meaning.specs.Costs.{cost, make, pay, sum, units_cost, with_counts, within}
use Rattle.widget_meaning.specs.NativeForms.{make_array, numbered_pairs}
use Rattle.js_image.specs.Image.{Rest, all_seen, image, meant_counts, seen}
use Rattle.js_image.specs.Held.{Kept}
use Rattle.js_image.proofs.Nodes.{rise_then}
use Rattle.js_image.proofs.Pays.{not_over, plus_none}

-- limits that were passed are passed
twice : (b d e : Bool) (p q n p2 q2 n2 x : Plan) → (if b then p else if d then q else if e then n else (if b then p2 else if d then q2 else if e then n2 else x)) ≡ (if b then p else if d then q else if e then n else x)
twice true d e p q n p2 q2 n2 x = refl
twice false true e p q n p2 q2 n2 x = refl
twice false false true p q n p2 q2 n2 x = refl
twice false false false p q n p2 q2 n2 x = refl

module _ (s : State) (c : Cell) (u n : ℕ) (go : Value → State → Plan) where
  abbrev a : Amounts
  a = s.own.counts

  -- a new object and units of text at once
  abbrev pub at_once : Plan
  at_once = pay (cost u 1 n 0) s (λ t. go (meaning.Own (length t.own.heap)) (with_new_cell t c))

  -- first the object and then the units
  abbrev pub in_turn : Plan
  in_turn = make c n s (λ v t. pay (units_cost u) t (go v))

  abbrev over_cells : Bool
  over_cells = nat_lt max_cells (a.cells + 1)

  abbrev over_slots : Bool
  over_slots = nat_lt max_slots (a.slots + n)

  abbrev over_nodes : Bool
  over_nodes = nat_lt max_nodes (a.nodes + 0)

  abbrev after : Amounts → State
  after b = with_new_cell (with_counts s b) c

  abbrev whole : Amounts
  whole = sum a (cost u 1 n 0)

  abbrev done : Plan
  done = go (meaning.Own (length s.own.heap)) (after whole)

  abbrev first : Amounts
  first = sum a (cost 0 1 n 0)

  abbrev then_units : Plan
  then_units = pay (units_cost u) (after first) (go (meaning.Own (length s.own.heap)))

  abbrev stopping : State → Plan → Plan
  stopping t p = if over_cells then Halt meaning.Cells t else if over_slots then Halt meaning.Slots t else if over_nodes then Halt meaning.Nodes t else p

  moved : (x y : ℕ) → (x + 0) + y ≡ x + y
  moved x y = omega arith

  module _ (units : a.units ≤ max_units) (fits : nat_lt max_units (a.units + u) ≡ false) where
    same_sum : sum first (units_cost u) ≡ whole
    same_sum = λ j. cost (moved a.units u j) (sym (plus_none (a.cells + 1)) j) (sym (plus_none (a.slots + n)) j) (sym (plus_none (a.nodes + 0)) j)

    units_then : then_units ≡ stopping (after first) done
    units_then =
        (λ j. within (same_sum j) (after first) (go (meaning.Own (length s.own.heap)) (with_counts (after first) (same_sum j))))
        ∙ (λ j. if fits j then Halt meaning.Units (after first) else stopping (after first) done)

    pub in_turn_is : in_turn ≡ at_once
    in_turn_is =
        (λ j. if (ap (nat_lt max_units) (sym (plus_none a.units)) ∙ not_over max_units a.units units) j then Halt meaning.Units s else stopping s then_units)
        ∙ ap (stopping s) units_then
        ∙ twice over_cells over_slots over_nodes (Halt meaning.Cells s) (Halt meaning.Slots s) (Halt meaning.Nodes s) (Halt meaning.Cells (after first)) (Halt meaning.Slots (after first)) (Halt meaning.Nodes (after first)) done
        ∙ (λ j. if sym fits j then Halt meaning.Units s else stopping s done)

  pub too_many : nat_lt max_units (a.units + u) ≡ true → at_once ≡ Halt meaning.Units s
  too_many over = λ j. if over j then Halt meaning.Units s else stopping s done

-- the units that the image counts
pub units_are : (fs : List Forest) (r : Rest) (w : ℕ) (s : Cells) (k : Counts) → slice_get s.kept w ≡ Some k → (image fs r w s).own.counts.units ≡ k.units
unfolding owned
units_are fs r w s k at = ap (λ (o : Option Counts). (meant_counts r.state.own.counts.nodes o).units) at

-- one call after another
pub grows_then : (w : ℕ) (one two three : Cells) → Grows w one.cells two.cells → Grows w two.cells three.cells → Grows w one.cells three.cells
grows_then w one two three f g = record {
  size = omega (arith, f.size, g.size);
  visible = λ k lt. g.visible k (omega (arith, lt, f.size)) ∙ f.visible k lt;
  count = λ k lt. g.count k (omega (arith, lt, f.size)) ∙ f.count k lt;
  scope = λ k lt. g.scope k (omega (arith, lt, f.size)) ∙ f.scope k lt;
  own_scope = λ k lt. g.own_scope k (omega (arith, lt, f.size)) ∙ f.own_scope k lt;
  bunch = λ k lt. g.bunch k (omega (arith, lt, f.size)) ∙ f.bunch k lt;
  raws = λ n i e. g.raws n i (f.raws n i e);
}

pub kept_then : (fs : List Forest) (w : ℕ) (one two three : Cells) → Kept fs w one two → Kept fs w two three → Kept fs w one three
kept_then fs w one two three f g = record {
  confined = λ h. g.confined (f.confined h);
  grows = grows_then w one two three f.grows g.grows;
  others = λ v apart. g.others v apart ∙ f.others v apart;
  others_grow = λ v apart. grows_then v one two three (f.others_grow v apart) (g.others_grow v apart);
  others_confined = λ gs v apart h. g.others_confined gs v apart (f.others_confined gs v apart h);
  nodes = λ p h. g.nodes p (f.nodes p h);
  counts = rise_then (owned w one).paid (owned w two).paid (owned w three).paid f.counts g.counts;
}

-- an Array of these elements, with units of text that are made for it
module _ (fs : List Forest) (r : Rest) (w : ℕ) (s : Cells) (k : Counts) (at : slice_get s.kept w ≡ Some k) (u : ℕ) (values : List StoreValue) (go : Value → State → Plan) where
  abbrev st : State
  st = image fs r w s

  abbrev vs : List Value
  vs = all_seen w s.cells values

  abbrev array : ℕ → Cell
  array l = new_array l (numbered_pairs 0 vs)

  pub array_in_turn : k.units ≤ UNIT_LIMIT → u ≤ UNIT_LIMIT - k.units → make_array vs u st go ≡ make (array (length values)) (length values) st (λ v t. pay (units_cost u) t (go v))
  array_in_turn units h =
      ap (λ l. at_once st (array l) u l go) (length-map values (seen w s.cells))
      ∙ sym (in_turn_is st (array (length values)) u (length values) go (subst (λ n. n ≤ max_units) (sym (units_are fs r w s k at)) units) (ap (λ n. nat_lt max_units (n + u)) (units_are fs r w s k at) ∙ fits))
    where
      fits : nat_lt UNIT_LIMIT (k.units + u) ≡ false
      fits = grind (arith, nat_tests, units, h)

  pub array_stop : k.units ≤ UNIT_LIMIT → UNIT_LIMIT - k.units < u → make_array vs u st go ≡ Halt meaning.Units st
  array_stop units h = too_many st (array (length vs)) u (length vs) go (ap (λ n. nat_lt max_units (n + u)) (units_are fs r w s k at) ∙ over)
    where
      over : nat_lt UNIT_LIMIT (k.units + u) ≡ true
      over = grind (arith, nat_tests, units, h)
