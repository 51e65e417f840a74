-- What a value is, as the widget sees it.
use Rattle.std.proofs.Common.{◌≡◌, ℕ, ◌<◌, List, length, refl, sym, ap, ◌∙◌, subst, Option, Some, None, Bool, true, false, if◌then◌else◌, slice_get, is_some, arith}
use Rattle.std.specs.Prelude.{Result, Ok, Err, OnErr, IfSome, ◌&&◌, nat_eq}
use Rattle.std.specs.Option.{option_map_or}
use Rattle.std.proofs.lemmas.Bool.Decides.{nat_tests}
use Rattle.js_tree.specs.Forest.{Forest}
use Rattle.code_units.specs.declared.owner.Owner.{Owner}
use Rattle.store_cells.specs.declared.value.Value.{Value}
use Rattle.store_cells.specs.declared.value.Value.TheVariants as value
use Rattle.store_cells.specs.declared.value.Number.TheVariants as number
use Rattle.store_cells.specs.declared.kind.CellKind.{CellKind}
use Rattle.store_cells.specs.declared.kind.Form.{Form}
use Rattle.store_cells.specs.declared.kind.Form.TheVariants as form
use Rattle.store_cells.specs.Cells as cells_of
use Rattle.store_cells.specs.Cells.{Cells, PlainCell, is_array, is_visible, is_visible_form, own_count}
use Rattle.store_cells.specs.Host.{is_frozen_form}
use Rattle.object_store.specs.Owned as store
use Rattle.object_store.specs.Owned.{is_of, own_kind, visible_at}
use Rattle.widget_meaning.specs.Values as meaning
use Rattle.widget_meaning.specs.OwnState.{Cell, Kind, State, array_length, kind_of}
use Rattle.widget_meaning.specs.AdsafeNatives.{is_prototype_kind}
use Rattle.js_image.specs.Image.{Rest, image, meant, meant_kind, seen}
use Rattle.js_image.specs.Held.{IsFine, IsHeld}
use Rattle.js_image.specs.Laws.{AreLawful}
use Rattle.js_image.specs.Reads.{cell_in}
use Rattle.js_image.proofs.Chains.{leads_form, visible_form}
use Rattle.js_image.proofs.Hosts.{get_there, host_link, leads_at}
use Rattle.js_image.proofs.Puts.{cell_there, hosts_cell, owner_is, permitted_else, shows}
use Rattle.adsafe_object.specs.Kinds.{base_in, is_array_in, is_array_kind, is_base, is_base_kind}

false_true : false ≡ true → ⊥
false_true h = cc

none_some : {A : Type 0} {a : A} → None ≡ Some a → ⊥
none_some h = cc

some_same : {A : Type 0} (a b : A) → Some a ≡ Some b → a ≡ b
some_same a b e = cc

both : (a b : Bool) → (a && b) ≡ true → (a ≡ true) × (b ≡ true)
both true b h = (refl, h)
both false b h = absurd (false_true h)

not_both : (a : Bool) → (a && false) ≡ false
not_both true = refl
not_both false = refl

-- by the kind of a cell at a place
pub at_kind : (cells : List PlainCell) (i : ℕ) (test : CellKind → Bool) (is : PlainCell → Bool) → ((c : PlainCell) → test (cells_of.kind_of c.form) ≡ is c) → i < length cells → (k : CellKind)
    → IfSome (slice_get cells i) (λ c. k ≡ cells_of.kind_of c.form) → test k ≡ option_map_or is (slice_get cells i) false
at_kind cells i test is same lt k h =
    let c = get_there cells i lt in
    ap test (subst (λ (o : Option PlainCell). IfSome o (λ d. k ≡ cells_of.kind_of d.form)) c.1 h) ∙ same c.0 ∙ sym (ap (λ (o : Option PlainCell). option_map_or is o false) c.1)

array_kind : (f : Form) → is_array_kind (cells_of.kind_of f) ≡ is_array f
array_kind form.Object = refl
array_kind form.Array = refl
array_kind (form.Function p) = refl
array_kind (form.Native n) = refl
array_kind form.Scope = refl
array_kind form.Bunch = refl
array_kind (form.RawNode n) = refl
array_kind form.Global = refl

pub array_at : (cells : List PlainCell) (i : ℕ) → i < length cells → (k : CellKind) → IfSome (slice_get cells i) (λ c. k ≡ cells_of.kind_of c.form) → is_array_kind k ≡ option_map_or (λ (c : PlainCell). is_array c.form) (slice_get cells i) false
array_at cells i lt k h = at_kind cells i is_array_kind (λ c. is_array c.form) (λ c. array_kind c.form) lt k h

-- by the owner and the kind of a cell
pub base_at : (w : ℕ) (cells : List PlainCell) (i : ℕ) → i < length cells → (o : Owner) (k : CellKind) → IfSome (slice_get cells i) (λ c. o ≡ c.owner) → IfSome (slice_get cells i) (λ c. k ≡ cells_of.kind_of c.form)
    → (is_of w o && is_base_kind k) ≡ option_map_or (is_base w) (slice_get cells i) false
base_at w cells i lt o k g h =
    let c = get_there cells i lt in
    let owned : o ≡ c.0.owner = subst (λ (x : Option PlainCell). IfSome x (λ d. o ≡ d.owner)) c.1 g in
    let kind : k ≡ cells_of.kind_of c.0.form = subst (λ (x : Option PlainCell). IfSome x (λ d. k ≡ cells_of.kind_of d.form)) c.1 h in
    (λ j. is_of w (owned j) && is_base_kind (kind j)) ∙ sym (ap (λ (x : Option PlainCell). option_map_or (is_base w) x false) c.1)

-- the forms of an Array, and of what may be a prototype
own_array : (fs : List Forest) (nodes : List ℕ) (w : ℕ) (cells : List PlainCell) (c : PlainCell) (f : Form) → is_some (array_length (Some (meant_kind fs nodes (own_kind w cells c f)))) ≡ is_array f
own_array fs nodes w cells c form.Object = refl
own_array fs nodes w cells c form.Array = refl
own_array fs nodes w cells c (form.Function p) = refl
own_array fs nodes w cells c form.Bunch = refl
own_array fs nodes w cells c (form.Native n) = refl
own_array fs nodes w cells c form.Scope = refl
own_array fs nodes w cells c (form.RawNode n) = refl
own_array fs nodes w cells c form.Global = refl

own_base : (fs : List Forest) (nodes : List ℕ) (w : ℕ) (cells : List PlainCell) (c : PlainCell) (f : Form) → is_visible_form f ≡ true → is_prototype_kind (Some (meant_kind fs nodes (own_kind w cells c f))) ≡ is_base_kind (cells_of.kind_of f)
own_base fs nodes w cells c form.Object v = refl
own_base fs nodes w cells c form.Array v = refl
own_base fs nodes w cells c (form.Function p) v = refl
own_base fs nodes w cells c form.Bunch v = refl
own_base fs nodes w cells c (form.Native n) v = absurd (false_true v)
own_base fs nodes w cells c form.Scope v = absurd (false_true v)
own_base fs nodes w cells c (form.RawNode n) v = absurd (false_true v)
own_base fs nodes w cells c form.Global v = absurd (false_true v)

-- a frozen form is no Array's
frozen_array : (f : Form) → is_frozen_form f ≡ true → is_array f ≡ false
frozen_array form.Object h = refl
frozen_array (form.Native n) h = refl
frozen_array form.Scope h = refl
frozen_array form.Array h = absurd (false_true h)
frozen_array (form.Function p) h = refl
frozen_array form.Bunch h = refl
frozen_array (form.RawNode n) h = refl
frozen_array form.Global h = refl

module _ (fs : List Forest) (r : Rest) (w : ℕ) (s : Cells) (laws : AreLawful s.cells) where
  abbrev st : State
  st = image fs r w s

  abbrev v_at : ℕ → meaning.Value
  v_at i = seen w s.cells (value.Ref i)

  -- an own cell, or one of the table
  own_kind_is : (i : ℕ) (c : PlainCell) → slice_get s.cells i ≡ Some c → visible_at w s.cells i ≡ true → kind_of st (v_at i) ≡ Some (meant_kind fs r.nodes (own_kind w s.cells c c.form))
  own_kind_is i c at e =
      ap (λ b. kind_of st (meant (if b then store.Own (own_count w s.cells i) else store.Other i))) e
      ∙ ap (λ (d : Cell). Some d.kind) (cell_there fs r w s i c at (shows w s.cells i c at ∙ e))

  no_kind : (i : ℕ) → IsHeld w s.cells i → visible_at w s.cells i ≡ false → kind_of st (v_at i) ≡ None
  no_kind i held e = ap (kind_of st) (host_link w s.cells laws i (permitted_else w s.cells i held e))

  array_is : (i : ℕ) → IsHeld w s.cells i → is_some (array_length (kind_of st (v_at i))) ≡ option_map_or (λ (c : PlainCell). is_array c.form) (slice_get s.cells i) false
  array_is i held = by (get_there s.cells i held.0) (visible_at w s.cells i) refl
    where
      by : (there : (c : PlainCell) × (slice_get s.cells i ≡ Some c)) (b : Bool) → visible_at w s.cells i ≡ b → is_some (array_length (kind_of st (v_at i))) ≡ option_map_or (λ (c : PlainCell). is_array c.form) (slice_get s.cells i) false
      by there true e =
          ap (λ k. is_some (array_length k)) (own_kind_is i there.0 there.1 e)
          ∙ own_array fs r.nodes w s.cells there.0 there.0.form
          ∙ sym (ap (λ (o : Option PlainCell). option_map_or (λ (d : PlainCell). is_array d.form) o false) there.1)
      by there false e =
          ap (λ k. is_some (array_length k)) (no_kind i held e)
          ∙ sym (frozen_array there.0.form (leads_form there.0 (leads_at w s.cells laws i there.0 there.1 (permitted_else w s.cells i held e))))
          ∙ sym (ap (λ (o : Option PlainCell). option_map_or (λ (d : PlainCell). is_array d.form) o false) there.1)

  -- whether a value is an Array of the widget
  pub value_array : (v : Value) → IsFine w s.cells v → is_array_in s.cells v ≡ is_some (array_length (kind_of st (seen w s.cells v)))
  value_array value.Undefined h = refl
  value_array value.Null h = refl
  value_array (value.Bool b) h = refl
  value_array (value.Num number.NaN) h = refl
  value_array (value.Num (number.Whole z)) h = refl
  value_array (value.Text t) h = refl
  value_array (value.Ref i) h = sym (array_is i h)

  self : (n : ℕ) → nat_eq n n ≡ true
  self n = grind (arith, nat_tests)

  own_is_base : (c : PlainCell) → is_visible w c ≡ true → is_base_kind (cells_of.kind_of c.form) ≡ is_base w c
  own_is_base c mine = sym (ap (λ b. b && is_base_kind (cells_of.kind_of c.form)) (ap (λ o. option_map_or (λ u. nat_eq u w) o false) (owner_is w c mine) ∙ self w))

  base_is : (i : ℕ) → IsHeld w s.cells i → is_prototype_kind (kind_of st (v_at i)) ≡ option_map_or (is_base w) (slice_get s.cells i) false
  base_is i held = by (get_there s.cells i held.0) (visible_at w s.cells i) refl
    where
      by : (there : (c : PlainCell) × (slice_get s.cells i ≡ Some c)) (b : Bool) → visible_at w s.cells i ≡ b → is_prototype_kind (kind_of st (v_at i)) ≡ option_map_or (is_base w) (slice_get s.cells i) false
      by there true e =
          let mine = shows w s.cells i there.0 there.1 ∙ e in
          ap is_prototype_kind (own_kind_is i there.0 there.1 e)
          ∙ own_base fs r.nodes w s.cells there.0 there.0.form (visible_form w there.0 mine)
          ∙ own_is_base there.0 mine
          ∙ sym (ap (λ (o : Option PlainCell). option_map_or (is_base w) o false) there.1)
      by there false e =
          ap is_prototype_kind (no_kind i held e)
          ∙ sym (ap (λ o. option_map_or (λ u. nat_eq u w) o false && is_base_kind (cells_of.kind_of there.0.form)) (hosts_cell w s.cells laws i there.0 there.1 (permitted_else w s.cells i held e)))
          ∙ sym (ap (λ (o : Option PlainCell). option_map_or (is_base w) o false) there.1)

  -- whether a value may be the prototype of a new object
  pub base_some : (v : Value) → IsFine w s.cells v → is_prototype_kind (kind_of st (seen w s.cells v)) ≡ is_some (base_in w s.cells v)
  base_some value.Undefined h = refl
  base_some value.Null h = refl
  base_some (value.Bool b) h = refl
  base_some (value.Num number.NaN) h = refl
  base_some (value.Num (number.Whole z)) h = refl
  base_some (value.Text t) h = refl
  base_some (value.Ref i) h = base_is i h ∙ by (option_map_or (is_base w) (slice_get s.cells i) false)
    where
      by : (b : Bool) → b ≡ is_some (if b then Some i else None)
      by true = refl
      by false = refl

-- the cell that may be a prototype is that of the value
pub base_refers : (w : ℕ) (cells : List PlainCell) (v : Value) (i : ℕ) → base_in w cells v ≡ Some i → (v ≡ value.Ref i) × (option_map_or (is_base w) (slice_get cells i) false ≡ true)
base_refers w cells value.Undefined i h = absurd (none_some h)
base_refers w cells value.Null i h = absurd (none_some h)
base_refers w cells (value.Bool b) i h = absurd (none_some h)
base_refers w cells (value.Num n) i h = absurd (none_some h)
base_refers w cells (value.Text t) i h = absurd (none_some h)
base_refers w cells (value.Ref k) i h = by (option_map_or (is_base w) (slice_get cells k) false) refl h
  where
    by : (b : Bool) → option_map_or (is_base w) (slice_get cells k) false ≡ b → (if b then Some k else None) ≡ Some i → (value.Ref k ≡ value.Ref i) × (option_map_or (is_base w) (slice_get cells i) false ≡ true)
    by true e g = (ap value.Ref (some_same k i g), ap (λ n. option_map_or (is_base w) (slice_get cells n) false) (sym (some_same k i g)) ∙ e)
    by false e g = absurd (none_some g)

-- what has a kind is the widget's
pub own_ref : (w : ℕ) (cells : List PlainCell) (v : Value) (st : State) (k : Kind) → kind_of st (seen w cells v) ≡ Some k → (o : Option ℕ) → o ≡ cell_in v → IfSome o (λ i. seen w cells v ≡ meaning.Own (own_count w cells i))
own_ref w cells v st k h None e = tt
own_ref w cells value.Undefined st k h (Some i) e = absurd (none_some (sym e))
own_ref w cells value.Null st k h (Some i) e = absurd (none_some (sym e))
own_ref w cells (value.Bool b) st k h (Some i) e = absurd (none_some (sym e))
own_ref w cells (value.Num n) st k h (Some i) e = absurd (none_some (sym e))
own_ref w cells (value.Text t) st k h (Some i) e = absurd (none_some (sym e))
own_ref w cells (value.Ref j) st k h (Some i) e = by (visible_at w cells j) refl ∙ ap (λ n. meaning.Own (own_count w cells n)) (some_same j i (sym e))
  where
    by : (b : Bool) → visible_at w cells j ≡ b → seen w cells (value.Ref j) ≡ meaning.Own (own_count w cells j)
    by true s = ap (λ b. meant (if b then store.Own (own_count w cells j) else store.Other j)) s
    by false s = absurd (none_some (sym (ap (λ b. kind_of st (meant (if b then store.Own (own_count w cells j) else store.Other j))) s) ∙ h))

-- and its cell is one of the widget's
pub own_cell : (w : ℕ) (cells : List PlainCell) (v : Value) (st : State) (k : Kind) → kind_of st (seen w cells v) ≡ Some k → IsFine w cells v → (o : Option ℕ) → o ≡ cell_in v → IfSome o (λ i. (i < length cells) × (visible_at w cells i ≡ true))
own_cell w cells v st k h fine None e = tt
own_cell w cells value.Undefined st k h fine (Some i) e = absurd (none_some (sym e))
own_cell w cells value.Null st k h fine (Some i) e = absurd (none_some (sym e))
own_cell w cells (value.Bool b) st k h fine (Some i) e = absurd (none_some (sym e))
own_cell w cells (value.Num n) st k h fine (Some i) e = absurd (none_some (sym e))
own_cell w cells (value.Text t) st k h fine (Some i) e = absurd (none_some (sym e))
own_cell w cells (value.Ref j) st k h fine (Some i) e = subst (λ n. (n < length cells) × (visible_at w cells n ≡ true)) (some_same j i (sym e)) (fine.0, by (visible_at w cells j) refl)
  where
    by : (b : Bool) → visible_at w cells j ≡ b → visible_at w cells j ≡ true
    by true s = s
    by false s = absurd (none_some (sym (ap (λ b. kind_of st (meant (if b then store.Own (own_count w cells j) else store.Other j))) s) ∙ h))

-- what holds whatever is answered
pub on_err : {A E : Type 0} {P : Type 0} (r : Result A E) → P → OnErr r P
on_err (Ok a) p = tt
on_err (Err e) p = p
