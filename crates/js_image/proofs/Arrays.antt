-- Arrays, Bunches and own properties, as the widget sees them.
use Rattle.std.proofs.Common.{◌≡◌, ℕ, zero, suc, ◌+◌, ◌<◌, ◌≤◌, ◌^◌, List, [], ◌∷◌, length, map, refl, sym, ap, ◌∙◌, subst, arith, Option, Some, None, Bool, true, false, if◌then◌else◌, is_some, slice_get}
use Rattle.std.specs.Prelude.{IfSome, unwrap_or}
use Rattle.std.specs.Fmt.{decimal}
use Rattle.std.specs.List.{range_with_len}
use Rattle.std.specs.Option.{option_and_then, option_map, option_map_or}
use Rattle.js_tree.specs.Forest.{Forest}
use Rattle.store_cells.specs.declared.value.Value.{Value}
use Rattle.store_cells.specs.declared.value.Value.TheVariants as value
use Rattle.store_cells.specs.declared.value.Number.TheVariants as number
use Rattle.store_cells.specs.declared.kind.Form.{Form}
use Rattle.store_cells.specs.declared.kind.Form.TheVariants as form
use Rattle.store_cells.specs.Arrays.{length_of}
use Rattle.store_cells.specs.Cells.{Cells, PlainCell, has_own, is_array, is_bunch, is_visible_form, own_count, value_of}
use Rattle.store_cells.specs.Host.{is_frozen_form, is_permitted_cell}
use Rattle.store_cells.proofs.Elements.{element_length}
use Rattle.object_store.specs.Elements as stored
use Rattle.object_store.specs.Owned as store
use Rattle.object_store.specs.Owned.{but_length, nodes_of, own_kind, own_pairs, visible_at}
use Rattle.widget_meaning.specs.Values as meaning
use Rattle.widget_meaning.specs.Values.{E3}
use Rattle.widget_meaning.specs.OwnState as state
use Rattle.widget_meaning.specs.OwnState.{Cell, State, cell_at, kind_of}
use Rattle.widget_meaning.specs.Plan.{Plan}
use Rattle.widget_meaning.specs.Costs.{or_throw}
use Rattle.widget_meaning.specs.NativeForms as natives
use Rattle.widget_meaning.specs.NativeForms.{on_array}
use Rattle.widget_meaning.specs.Properties.{own_property}
use Rattle.js_image.specs.Image.{Rest, all_seen, image, meant, meant_kind, meant_pairs, node_number, seen}
use Rattle.js_image.specs.Held.{AreFine, ArePairs, IsConfined, IsFine, IsHeld}
use Rattle.js_image.specs.Laws.{AreLawful}
use Rattle.js_image.specs.Elements.{array_plan, is_stored, own_place, stored_element, stored_length, stored_nodes, stored_own}
use Rattle.js_image.proofs.Chains.{found_fine, leads_form, looked, looked_apart, own_is, own_nothing, visible_form}
use Rattle.js_image.proofs.Hosts.{get_there, host_link, leads_at}
use Rattle.js_image.proofs.Puts.{cell_there, permitted_else, shows}

false_true : false ≡ true → ⊥
false_true h = cc

none_some : {A : Type 0} {a : A} → None ≡ Some a → ⊥
none_some h = cc

-- what is said of the cell at a place
pub at_option : {X : Type 0} (f : PlainCell → Option X) (o : Option X) (cells : List PlainCell) (i : ℕ) → i < length cells → IfSome (slice_get cells i) (λ c. o ≡ f c) → o ≡ option_and_then f (slice_get cells i)
at_option f o cells i lt h =
    let c = get_there cells i lt in
    let e : o ≡ f c.0 = subst (λ (x : Option PlainCell). IfSome x (λ d. o ≡ f d)) c.1 h in
    e ∙ sym (ap (option_and_then f) c.1)

pub at_test : (f : PlainCell → Bool) (b : Bool) (cells : List PlainCell) (i : ℕ) → i < length cells → IfSome (slice_get cells i) (λ c. b ≡ f c) → b ≡ option_map_or f (slice_get cells i) false
at_test f b cells i lt h =
    let c = get_there cells i lt in
    let e : b ≡ f c.0 = subst (λ (x : Option PlainCell). IfSome x (λ d. b ≡ f d)) c.1 h in
    e ∙ sym (ap (λ (x : Option PlainCell). option_map_or f x false) c.1)

pub stored_test : (cells : List PlainCell) (i at : ℕ) → i < length cells → (o : Option Value) → IfSome (slice_get cells i) (λ c. o ≡ stored.element at c) → is_some o ≡ is_stored cells i at
stored_test cells i at lt o h = ap is_some (at_option (stored.element at) o cells i lt h)

-- a frozen form is neither that of an Array nor that of a Bunch
frozen_other : (f : Form) → is_frozen_form f ≡ true → (is_array f ≡ false) × (is_bunch f ≡ false)
frozen_other form.Object h = (refl, refl)
frozen_other (form.Native n) h = (refl, refl)
frozen_other form.Scope h = absurd (false_true h)
frozen_other form.Array h = absurd (false_true h)
frozen_other (form.Function p) h = absurd (false_true h)
frozen_other form.Bunch h = absurd (false_true h)
frozen_other (form.RawNode n) h = absurd (false_true h)
frozen_other form.Global h = absurd (false_true h)

module _ (fs : List Forest) (nodes : List ℕ) (w : ℕ) (cells : List PlainCell) (c : PlainCell) where
  -- a visible cell, by its form
  form_length : (f : Form) → is_visible_form f ≡ true → (if is_array f then Some (length_of c.pairs) else None) ≡ state.array_length (Some (meant_kind fs nodes (own_kind w cells c f)))
  form_length form.Object v = refl
  form_length form.Array v = refl
  form_length (form.Function p) v = refl
  form_length form.Bunch v = refl
  form_length (form.Native n) v = absurd (false_true v)
  form_length form.Scope v = absurd (false_true v)
  form_length (form.RawNode n) v = absurd (false_true v)
  form_length form.Global v = absurd (false_true v)

  form_nodes : (f : Form) → is_visible_form f ≡ true → state.bunch_nodes (Some (meant_kind fs nodes (own_kind w cells c f))) ≡ option_map (map (node_number nodes)) (if is_bunch f then Some (nodes_of cells c) else None)
  form_nodes form.Object v = refl
  form_nodes form.Array v = refl
  form_nodes (form.Function p) v = refl
  form_nodes form.Bunch v = refl
  form_nodes (form.Native n) v = absurd (false_true v)
  form_nodes form.Scope v = absurd (false_true v)
  form_nodes (form.RawNode n) v = absurd (false_true v)
  form_nodes form.Global v = absurd (false_true v)

  seen_or : (o : Option Value) → seen w cells (unwrap_or o value.Undefined) ≡ unwrap_or (option_map (seen w cells) o) meaning.Undefined
  seen_or None = refl
  seen_or (Some v) = refl

  form_element : (at len : ℕ) → at < 2 ^ 64 → (f : Form) → is_visible_form f ≡ true → state.array_length (Some (meant_kind fs nodes (own_kind w cells c f))) ≡ Some len
      → seen w cells (unwrap_or (if is_array f then value_of c.pairs (decimal at) else None) value.Undefined)
      ≡ natives.element (meant_pairs (own_pairs w cells (if is_bunch f then [] else (if is_array f then but_length c.pairs else c.pairs)))) at
  form_element at len lt form.Array v e =
      seen_or (value_of c.pairs (decimal at))
      ∙ ap (λ o. unwrap_or (option_map (seen w cells) o) meaning.Undefined) (sym (looked_apart c.pairs (decimal at) (element_length at lt)))
      ∙ ap (λ o. unwrap_or o meaning.Undefined) (sym (looked w cells (but_length c.pairs) (decimal at)))
  form_element at len lt form.Object v e = absurd (none_some e)
  form_element at len lt (form.Function p) v e = absurd (none_some e)
  form_element at len lt form.Bunch v e = absurd (none_some e)
  form_element at len lt (form.Native n) v e = absurd (false_true v)
  form_element at len lt form.Scope v e = absurd (false_true v)
  form_element at len lt (form.RawNode n) v e = absurd (false_true v)
  form_element at len lt form.Global v e = absurd (false_true v)

-- an element of fine pairs is fine
fine_or : (w : ℕ) (cells : List PlainCell) (o : Option Value) → IfSome o (IsFine w cells) → IsFine w cells (unwrap_or o value.Undefined)
fine_or w cells None h = tt
fine_or w cells (Some v) h = h

form_fine : (w : ℕ) (cells : List PlainCell) (ps : List (List ℕ × Value)) (at : ℕ) (f : Form) → (is_bunch f ≡ false → ArePairs w cells ps) → IsFine w cells (unwrap_or (if is_array f then value_of ps (decimal at) else None) value.Undefined)
form_fine w cells ps at form.Array h = fine_or w cells (value_of ps (decimal at)) (found_fine w cells (decimal at) ps (h refl))
form_fine w cells ps at form.Object h = tt
form_fine w cells ps at (form.Function p) h = tt
form_fine w cells ps at form.Bunch h = tt
form_fine w cells ps at (form.Native n) h = tt
form_fine w cells ps at form.Scope h = tt
form_fine w cells ps at (form.RawNode n) h = tt
form_fine w cells ps at form.Global h = tt

module _ (fs : List Forest) (r : Rest) (w : ℕ) (s : Cells) (laws : AreLawful s.cells) where
  abbrev st : State
  st = image fs r w s

  -- a visible cell
  link : (i : ℕ) → visible_at w s.cells i ≡ true → seen w s.cells (value.Ref i) ≡ meaning.Own (own_count w s.cells i)
  link i e = ap (λ b. meant (if b then store.Own (own_count w s.cells i) else store.Other i)) e

  kind_is : (i : ℕ) (c : PlainCell) → slice_get s.cells i ≡ Some c → visible_at w s.cells i ≡ true → kind_of st (seen w s.cells (value.Ref i)) ≡ Some (meant_kind fs r.nodes (own_kind w s.cells c c.form))
  kind_is i c at e = ap (kind_of st) (link i e) ∙ ap (λ (d : Cell). Some d.kind) (cell_there fs r w s i c at (shows w s.cells i c at ∙ e))

  own_form : (i : ℕ) (c : PlainCell) → slice_get s.cells i ≡ Some c → visible_at w s.cells i ≡ true → is_visible_form c.form ≡ true
  own_form i c at e = visible_form w c (shows w s.cells i c at ∙ e)

  -- a cell of the table
  other_form : (i : ℕ) (c : PlainCell) → slice_get s.cells i ≡ Some c → is_permitted_cell i ≡ true → (is_array c.form ≡ false) × (is_bunch c.form ≡ false)
  other_form i c at p = frozen_other c.form (leads_form c (leads_at w s.cells laws i c at p))

  held_length : (i : ℕ) → IsHeld w s.cells i → stored_length s.cells (value.Ref i) ≡ state.array_length (kind_of st (seen w s.cells (value.Ref i)))
  held_length i held = by (get_there s.cells i held.0) (visible_at w s.cells i) refl
    where
      by : (there : (c : PlainCell) × (slice_get s.cells i ≡ Some c)) (b : Bool) → visible_at w s.cells i ≡ b → stored_length s.cells (value.Ref i) ≡ state.array_length (kind_of st (seen w s.cells (value.Ref i)))
      by there true e =
          let c = there.0 in
          ap (option_and_then stored.array_length) there.1 ∙ form_length fs r.nodes w s.cells c c.form (own_form i c there.1 e) ∙ sym (ap state.array_length (kind_is i c there.1 e))
      by there false e =
          let c = there.0 in
          let p = permitted_else w s.cells i held e in
          ap (option_and_then stored.array_length) there.1
          ∙ ap (λ b. if b then Some (length_of c.pairs) else None) (other_form i c there.1 p).0
          ∙ sym (ap (λ v. state.array_length (kind_of st v)) (host_link w s.cells laws i p))

  -- the length of a value that is an Array
  pub length_is : (v : Value) → IsFine w s.cells v → stored_length s.cells v ≡ state.array_length (kind_of st (seen w s.cells v))
  length_is value.Undefined h = refl
  length_is value.Null h = refl
  length_is (value.Bool b) h = refl
  length_is (value.Num number.NaN) h = refl
  length_is (value.Num (number.Whole z)) h = refl
  length_is (value.Text t) h = refl
  length_is (value.Ref i) h = held_length i h

  plan_same : (n : ℕ) (o : Option ℕ) (k : ℕ → ℕ → Plan) → or_throw E3 o st (k n) ≡ array_plan n o k st
  plan_same n None k = refl
  plan_same n (Some len) k = refl

  held_receiver : (k : ℕ → ℕ → Plan) (i : ℕ) → IsHeld w s.cells i → on_array (Some (seen w s.cells (value.Ref i))) st k ≡ array_plan (own_count w s.cells i) (stored_length s.cells (value.Ref i)) k st
  held_receiver k i held = by (visible_at w s.cells i) refl
    where
      n : ℕ
      n = own_count w s.cells i

      by : (b : Bool) → visible_at w s.cells i ≡ b → on_array (Some (seen w s.cells (value.Ref i))) st k ≡ array_plan n (stored_length s.cells (value.Ref i)) k st
      by true e =
          ap (λ v. on_array (Some v) st k) (link i e)
          ∙ plan_same n (state.array_length (kind_of st (meaning.Own n))) k
          ∙ ap (λ o. array_plan n o k st) (sym (held_length i held ∙ ap (λ v. state.array_length (kind_of st v)) (link i e)))
      by false e =
          let p = host_link w s.cells laws i (permitted_else w s.cells i held e) in
          ap (λ v. on_array (Some v) st k) p
          ∙ ap (λ o. array_plan n o k st) (sym (held_length i held ∙ ap (λ v. state.array_length (kind_of st v)) p))

  -- the receiver of a method of arrays
  pub receiver_is : (k : ℕ → ℕ → Plan) (v : Value) → IsFine w s.cells v → on_array (Some (seen w s.cells v)) st k ≡ array_plan (own_place w s.cells v) (stored_length s.cells v) k st
  receiver_is k value.Undefined h = refl
  receiver_is k value.Null h = refl
  receiver_is k (value.Bool b) h = refl
  receiver_is k (value.Num number.NaN) h = refl
  receiver_is k (value.Num (number.Whole z)) h = refl
  receiver_is k (value.Text t) h = refl
  receiver_is k (value.Ref i) h = held_receiver k i h

  held_element : (at len : ℕ) → at < 2 ^ 64 → (i : ℕ) → IsHeld w s.cells i → state.array_length (kind_of st (seen w s.cells (value.Ref i))) ≡ Some len
      → seen w s.cells (stored_element s.cells (value.Ref i) at) ≡ natives.element (cell_at st (own_count w s.cells i)).pairs at
  held_element at len lt i held is = by (get_there s.cells i held.0) (visible_at w s.cells i) refl
    where
      by : (there : (c : PlainCell) × (slice_get s.cells i ≡ Some c)) (b : Bool) → visible_at w s.cells i ≡ b → seen w s.cells (stored_element s.cells (value.Ref i) at) ≡ natives.element (cell_at st (own_count w s.cells i)).pairs at
      by there true e =
          let c = there.0 in
          ap (λ (o : Option PlainCell). seen w s.cells (unwrap_or (option_and_then (stored.element at) o) value.Undefined)) there.1
          ∙ form_element fs r.nodes w s.cells c at len lt c.form (own_form i c there.1 e) (sym (ap state.array_length (kind_is i c there.1 e)) ∙ is)
          ∙ sym (ap (λ (d : Cell). natives.element d.pairs at) (cell_there fs r w s i c there.1 (shows w s.cells i c there.1 ∙ e)))
      by there false e = absurd (none_some (sym (ap (λ v. state.array_length (kind_of st v)) (host_link w s.cells laws i (permitted_else w s.cells i held e))) ∙ is))

  -- an element of a value that is an Array
  pub element_is : (at len : ℕ) → at < 2 ^ 64 → (v : Value) → IsFine w s.cells v → state.array_length (kind_of st (seen w s.cells v)) ≡ Some len
      → seen w s.cells (stored_element s.cells v at) ≡ natives.element (cell_at st (own_place w s.cells v)).pairs at
  element_is at len lt value.Undefined h e = absurd (none_some e)
  element_is at len lt value.Null h e = absurd (none_some e)
  element_is at len lt (value.Bool b) h e = absurd (none_some e)
  element_is at len lt (value.Num number.NaN) h e = absurd (none_some e)
  element_is at len lt (value.Num (number.Whole z)) h e = absurd (none_some e)
  element_is at len lt (value.Text t) h e = absurd (none_some e)
  element_is at len lt (value.Ref i) h e = held_element at len lt i h e

  -- the elements from a place on
  pub elements_are : (a n len : ℕ) → a + n ≤ 4294967295 → (v : Value) → IsFine w s.cells v → state.array_length (kind_of st (seen w s.cells v)) ≡ Some len
      → all_seen w s.cells (map (stored_element s.cells v) (range_with_len a n)) ≡ map (natives.element (cell_at st (own_place w s.cells v)).pairs) (range_with_len a n)
  elements_are a zero len le v h e = refl
  elements_are a (suc n) len le v h e = λ j. element_is a len (omega (arith, le)) v h e j ∷ elements_are (a + 1) n len (omega (arith, le)) v h e j

  held_nodes : (i : ℕ) → IsHeld w s.cells i → state.bunch_nodes (kind_of st (seen w s.cells (value.Ref i))) ≡ option_map (map (node_number r.nodes)) (stored_nodes s.cells (value.Ref i))
  held_nodes i held = by (get_there s.cells i held.0) (visible_at w s.cells i) refl
    where
      by : (there : (c : PlainCell) × (slice_get s.cells i ≡ Some c)) (b : Bool) → visible_at w s.cells i ≡ b → state.bunch_nodes (kind_of st (seen w s.cells (value.Ref i))) ≡ option_map (map (node_number r.nodes)) (stored_nodes s.cells (value.Ref i))
      by there true e =
          let c = there.0 in
          ap state.bunch_nodes (kind_is i c there.1 e) ∙ form_nodes fs r.nodes w s.cells c c.form (own_form i c there.1 e)
          ∙ sym (ap (λ (o : Option PlainCell). option_map (map (node_number r.nodes)) (option_and_then (stored.bunch_nodes s.cells) o)) there.1)
      by there false e =
          let c = there.0 in
          let p = permitted_else w s.cells i held e in
          ap (λ v. state.bunch_nodes (kind_of st v)) (host_link w s.cells laws i p)
          ∙ sym (
          ap (λ (o : Option PlainCell). option_map (map (node_number r.nodes)) (option_and_then (stored.bunch_nodes s.cells) o)) there.1
          ∙ ap (λ b. option_map (map (node_number r.nodes)) (if b then Some (nodes_of s.cells c) else None)) (other_form i c there.1 p).1)

  -- the nodes of a value that is a Bunch
  pub nodes_are : (v : Value) → IsFine w s.cells v → state.bunch_nodes (kind_of st (seen w s.cells v)) ≡ option_map (map (node_number r.nodes)) (stored_nodes s.cells v)
  nodes_are value.Undefined h = refl
  nodes_are value.Null h = refl
  nodes_are (value.Bool b) h = refl
  nodes_are (value.Num number.NaN) h = refl
  nodes_are (value.Num (number.Whole z)) h = refl
  nodes_are (value.Text t) h = refl
  nodes_are (value.Ref i) h = held_nodes i h

pub nodes_map : {X : Type 0} (items : X → List ℕ) (g : ℕ → ℕ) (o : Option X) → option_map (λ v. map g (items v)) o ≡ option_map (map g) (option_map items o)
nodes_map items g None = refl
nodes_map items g (Some v) = refl

module _ (fs : List Forest) (w : ℕ) (s : Cells) (laws : AreLawful s.cells) (confined : IsConfined fs w s) where
  held_fine : (at i : ℕ) → IsHeld w s.cells i → IsFine w s.cells (stored_element s.cells (value.Ref i) at)
  held_fine at i held = by (get_there s.cells i held.0) (visible_at w s.cells i) refl
    where
      by : (there : (c : PlainCell) × (slice_get s.cells i ≡ Some c)) (b : Bool) → visible_at w s.cells i ≡ b → IsFine w s.cells (stored_element s.cells (value.Ref i) at)
      by there true e =
          let c = there.0 in
          subst (λ (o : Option PlainCell). IsFine w s.cells (unwrap_or (option_and_then (stored.element at) o) value.Undefined)) (sym there.1)
          (form_fine w s.cells c.pairs at c.form ((confined.each i c there.1).cell (shows w s.cells i c there.1 ∙ e)).pairs)
      by there false e =
          let c = there.0 in
          let p = frozen_other c.form (leads_form c (leads_at w s.cells laws i c there.1 (permitted_else w s.cells i held e))) in
          subst (IsFine w s.cells) (sym (
          ap (λ (o : Option PlainCell). unwrap_or (option_and_then (stored.element at) o) value.Undefined) there.1
          ∙ ap (λ b. unwrap_or (if b then value_of c.pairs (decimal at) else None) value.Undefined) p.0)) tt

  -- an element is fine
  pub element_fine : (at : ℕ) (v : Value) → IsFine w s.cells v → IsFine w s.cells (stored_element s.cells v at)
  element_fine at value.Undefined h = tt
  element_fine at value.Null h = tt
  element_fine at (value.Bool b) h = tt
  element_fine at (value.Num n) h = tt
  element_fine at (value.Text t) h = tt
  element_fine at (value.Ref i) h = held_fine at i h

  pub elements_fine : (a n : ℕ) (v : Value) → IsFine w s.cells v → AreFine w s.cells (map (stored_element s.cells v) (range_with_len a n))
  elements_fine a zero v h = tt
  elements_fine a (suc n) v h = (element_fine a v h, elements_fine (a + 1) n v h)

  some_map : {A B : Type 0} (f : A → B) (o : Option A) → is_some o ≡ is_some (option_map f o)
  some_map f None = refl
  some_map f (Some a) = refl

  held_own : (r : Rest) (x : List ℕ) (i : ℕ) → IsHeld w s.cells i → stored_own s.cells (value.Ref i) x ≡ is_some (own_property (image fs r w s) (seen w s.cells (value.Ref i)) x)
  held_own r x i held =
      let there = get_there s.cells i held.0 in
      ap (λ (o : Option PlainCell). option_map_or (stored.shows_own x) o false) there.1 ∙ by there.0 there.1 (is_bunch there.0.form) refl
    where
      by : (c : PlainCell) → slice_get s.cells i ≡ Some c → (b : Bool) → is_bunch c.form ≡ b → (if b then false else has_own x c) ≡ is_some (own_property (image fs r w s) (seen w s.cells (value.Ref i)) x)
      by c at true e = sym (ap is_some (own_nothing fs r w s confined laws x i c at held e))
      by c at false e = some_map (seen w s.cells) (value_of c.pairs x) ∙ sym (ap is_some (own_is fs r w s confined laws x i c at held e))

  -- whether a value has an own property
  pub has_is : (r : Rest) (x : List ℕ) (v : Value) → IsFine w s.cells v → stored_own s.cells v x ≡ is_some (own_property (image fs r w s) (seen w s.cells v) x)
  has_is r x value.Undefined h = refl
  has_is r x value.Null h = refl
  has_is r x (value.Bool b) h = refl
  has_is r x (value.Num number.NaN) h = refl
  has_is r x (value.Num (number.Whole z)) h = refl
  has_is r x (value.Text t) h = refl
  has_is r x (value.Ref i) h = held_own r x i h
