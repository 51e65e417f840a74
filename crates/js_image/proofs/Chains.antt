-- What is read along prototypes is what the meaning reads, and what the widget may hold.
use Rattle.std.proofs.Common.{◌≡◌, ℕ, zero, suc, ◌<◌, ◌≤◌, List, [], ◌∷◌, length, refl, sym, ap, ◌∙◌, subst, Option, Some, None, arith, Bool, true, false, cond, if◌then◌else◌, slice_get, filter, map, not, take, is_some}
use Rattle.std.specs.Prelude.{IfSome, ◌&&◌, ◌||◌, ◌-◌, pos, negsuc, nat_eq, nat_le, unwrap_or}
use Rattle.std.specs.List.{find, list_all}
use Rattle.std.specs.Option.{option_map, option_map_or, option_and_then}
use Rattle.std.specs.Str.{bytes_eq}
use Rattle.std.proofs.lemmas.Slice.Eq.{bytes_eq-Decides}
use Rattle.std.proofs.lemmas.Map.Entries.{lookup-filter-keys}
use Rattle.std.proofs.lemmas.Map.Made.{lookup-map_values}
use Rattle.std.proofs.lemmas.Option.{get_or_from_slice_get, slice_get-map}
use Rattle.js_tree.specs.Forest.{Forest}
use Rattle.store_cells.specs.declared.value.Value.{Value}
use Rattle.store_cells.specs.declared.value.Value.TheVariants as value
use Rattle.store_cells.specs.declared.value.Number.TheVariants as number
use Rattle.store_cells.specs.declared.kind.Form.{Form}
use Rattle.store_cells.specs.declared.kind.Form.TheVariants as form
use Rattle.store_cells.specs.Lists.{count_before, links}
use Rattle.store_cells.specs.Cells.{Cells, PlainCell, chain, first_own, has_own, is_array, is_bunch, is_bunch_at, is_scope, is_scope_at, is_visible, is_visible_form, own_count, prototypes, value_of, widget_of}
use Rattle.store_cells.specs.Arrays.{count_value, length_in, length_name, length_of}
use Rattle.store_cells.specs.Host.{is_frozen_form, is_host_owner, is_permitted_cell, is_permitted_value, leads_on}
use Rattle.store_cells.proofs.Lists.{count_step}
use Rattle.object_store.specs.Calls.{HasLength, readable}
use Rattle.object_store.specs.Owned as store
use Rattle.object_store.specs.Owned.{own_cell, own_cells, own_kind, own_link, own_pairs, own_value, owned, visible_at}
use Rattle.widget_meaning.specs.Values as meaning
use Rattle.widget_meaning.specs.OwnState as state
use Rattle.widget_meaning.specs.OwnState.{Cell, State, cell_at}
use Rattle.widget_meaning.specs.Properties.{kind_property, on_chain, or_else, own_property, property, prototype}
use Rattle.js_image.specs.Image.{Rest, entry_at, image, meant, meant_cell, meant_kind, meant_pairs, seen}
use Rattle.js_image.specs.Held.{ArePairs, IsConfined, IsFine, IsHeld}
use Rattle.js_image.specs.Laws.{AreLawful}
use Rattle.js_image.proofs.Hosts.{entry_own, entry_proto, get_there, host_is, host_link, leads_at, permitted_held}

false_true : false ≡ true → ⊥
false_true h = cc

none_some : {A : Type 0} {a : A} → None ≡ Some a → ⊥
none_some h = cc

some_same : {A : Type 0} (a b : A) → Some a ≡ Some b → a ≡ b
some_same a b e = cc

either : (a : Bool) {b : Bool} → b ≡ true → (a || b) ≡ true
either true h = refl
either false h = h

both : (a b : Bool) → (a && b) ≡ true → (a ≡ true) × (b ≡ true)
both true b h = (refl, h)
both false b h = absurd (false_true h)

-- a value among pairs
pub looked : (w : ℕ) (cells : List PlainCell) (ps : List (List ℕ × Value)) (x : List ℕ) → state.lookup (meant_pairs (own_pairs w cells ps)) x ≡ option_map (seen w cells) (value_of ps x)
looked w cells ps x = lookup-map_values meant (bytes_eq x) (own_pairs w cells ps) ∙ ap (option_map meant) (lookup-map_values (own_value w cells) (bytes_eq x) ps) ∙ by (value_of ps x)
  where
    by : (o : Option Value) → option_map meant (option_map (own_value w cells) o) ≡ option_map (seen w cells) o
    by None = refl
    by (Some v) = refl

-- the same among pairs without `length`, for another name
pub looked_apart : (ps : List (List ℕ × Value)) (x : List ℕ) → bytes_eq x length_name ≡ false → value_of (filter (λ p. not (bytes_eq p.0 length_name)) ps) x ≡ value_of ps x
looked_apart ps x differs = lookup-filter-keys (bytes_eq x) (λ k. not (bytes_eq k length_name)) true (λ k e. ap not (ap (λ y. bytes_eq y length_name) (sym ((bytes_eq-Decides x k).0 e)) ∙ differs)) ps

-- a visible cell stands at its number
pub heap_at : {X : Type 0} (p : PlainCell → Bool) (g : PlainCell → X) (cs : List PlainCell) (i : ℕ) (c : PlainCell) → slice_get cs i ≡ Some c → p c ≡ true → slice_get (map g (filter p cs)) (count_before p cs i) ≡ Some (g c)
heap_at p g [] i c at mine = absurd (none_some at)
heap_at p g (d ∷ cs) zero c at mine = ap (λ b. slice_get (map g (cond b (d ∷ filter p cs) (filter p cs))) 0) (ap p (some_same d c at) ∙ mine) ∙ ap (λ e. Some (g e)) (some_same d c at)
heap_at p g (d ∷ cs) (suc i) c at mine = ap (slice_get (map g (filter p (d ∷ cs)))) (count_step p d (take i cs)) ∙ by (p d) (heap_at p g cs i c at mine)
  where
    by : (b : Bool) → slice_get (map g (filter p cs)) (count_before p cs i) ≡ Some (g c) → slice_get (map g (cond b (d ∷ filter p cs) (filter p cs))) (if b then suc (count_before p cs i) else count_before p cs i) ≡ Some (g c)
    by true h = h
    by false h = h

-- what a first cell with a name has
pub first_step : (x : List ℕ) (c : PlainCell) (cs : List PlainCell) → first_own x (c ∷ cs) ≡ or_else (value_of c.pairs x) (λ _. first_own x cs)
first_step x c cs = by (value_of c.pairs x) refl
  where
    by : (o : Option Value) → value_of c.pairs x ≡ o → option_and_then (λ d. value_of d.pairs x) (if is_some (value_of c.pairs x) then Some c else find (has_own x) cs) ≡ or_else (value_of c.pairs x) (λ _. first_own x cs)
    by (Some v) e = ap (λ o. option_and_then (λ d. value_of d.pairs x) (if is_some o then Some c else find (has_own x) cs)) e ∙ e ∙ ap (λ o. or_else o (λ _. first_own x cs)) (sym e)
    by None e = ap (λ o. option_and_then (λ d. value_of d.pairs x) (if is_some o then Some c else find (has_own x) cs)) e ∙ ap (λ o. or_else o (λ _. first_own x cs)) (sym e)

or_else_map : {A B : Type 0} (f : A → B) (o : Option A) (p : Option A) (q : Option B) → q ≡ option_map f p → or_else (option_map f o) (λ _. q) ≡ option_map f (or_else o (λ _. p))
or_else_map f (Some a) p q e = refl
or_else_map f None p q e = e

-- a value among fine pairs is fine
pub found_fine : (w : ℕ) (cells : List PlainCell) (x : List ℕ) (ps : List (List ℕ × Value)) → ArePairs w cells ps → IfSome (value_of ps x) (IsFine w cells)
found_fine w cells x [] h = tt
found_fine w cells x (p ∷ ps) h = by (bytes_eq x p.0) (found_fine w cells x ps h.1)
  where
    by : (b : Bool) → IfSome (value_of ps x) (IsFine w cells) → IfSome (cond b (Some p.1) (value_of ps x)) (IsFine w cells)
    by true k = h.0
    by false k = k

-- the length of an array
length_value : (o : Option Value) → is_some (option_and_then length_in o) ≡ true → o ≡ Some (count_value (option_map_or (λ n. n) (option_and_then length_in o) 0))
length_value None h = absurd (false_true h)
length_value (Some value.Undefined) h = absurd (false_true h)
length_value (Some value.Null) h = absurd (false_true h)
length_value (Some (value.Bool b)) h = absurd (false_true h)
length_value (Some (value.Num number.NaN)) h = absurd (false_true h)
length_value (Some (value.Num (number.Whole (negsuc n)))) h = absurd (false_true h)
length_value (Some (value.Text t)) h = absurd (false_true h)
length_value (Some (value.Ref i)) h = absurd (false_true h)
length_value (Some (value.Num (number.Whole (pos n)))) h = by (nat_le n 4294967295) h
  where
    by : (b : Bool) → is_some (if b then Some n else None) ≡ true → Some (value.Num (number.Whole (pos n))) ≡ Some (count_value (option_map_or (λ m. m) (if b then Some n else None) 0))
    by true g = refl
    by false g = absurd (false_true g)

-- what an own property of a visible cell is
module _ (fs : List Forest) (nodes : List ℕ) (w : ℕ) (cells : List PlainCell) (c : PlainCell) (x : List ℕ) where
  array_is : HasLength c → kind_property (state.Array (length_of c.pairs)) (meant_pairs (own_pairs w cells (filter (λ p. not (bytes_eq p.0 length_name)) c.pairs))) x ≡ option_map (seen w cells) (value_of c.pairs x)
  array_is h = by (bytes_eq x length_name) refl
    where
      by : (b : Bool) → bytes_eq x length_name ≡ b
          → (if b then Some (meaning.Num (pos (length_of c.pairs))) else state.lookup (meant_pairs (own_pairs w cells (filter (λ p. not (bytes_eq p.0 length_name)) c.pairs))) x) ≡ option_map (seen w cells) (value_of c.pairs x)
      by true e = ap (option_map (seen w cells)) (sym (ap (value_of c.pairs) ((bytes_eq-Decides x length_name).0 e) ∙ length_value (value_of c.pairs length_name) h))
      by false e = looked w cells (filter (λ p. not (bytes_eq p.0 length_name)) c.pairs) x ∙ ap (option_map (seen w cells)) (looked_apart c.pairs x e)

  by_form : (f : Form) → is_bunch f ≡ false → (is_array f ≡ true → HasLength c) → is_visible_form f ≡ true
      → kind_property (meant_kind fs nodes (own_kind w cells c f)) (meant_pairs (own_pairs w cells (if is_bunch f then [] else (if is_array f then filter (λ p. not (bytes_eq p.0 length_name)) c.pairs else c.pairs)))) x ≡ option_map (seen w cells) (value_of c.pairs x)
  by_form form.Object b a v = looked w cells c.pairs x
  by_form form.Array b a v = array_is (a refl)
  by_form (form.Function p) b a v = looked w cells c.pairs x
  by_form form.Bunch b a v = absurd (false_true (sym b))
  by_form (form.Native n) b a v = absurd (false_true v)
  by_form form.Scope b a v = absurd (false_true v)
  by_form (form.RawNode n) b a v = absurd (false_true v)
  by_form form.Global b a v = absurd (false_true v)

  -- a Bunch shows no pair
  bunch_has : (f : Form) → is_bunch f ≡ true → kind_property (meant_kind fs nodes (own_kind w cells c f)) (meant_pairs (own_pairs w cells (if is_bunch f then [] else (if is_array f then filter (λ p. not (bytes_eq p.0 length_name)) c.pairs else c.pairs)))) x ≡ None
  bunch_has form.Bunch b = refl
  bunch_has form.Object b = absurd (false_true b)
  bunch_has form.Array b = absurd (false_true b)
  bunch_has (form.Function p) b = absurd (false_true b)
  bunch_has (form.Native n) b = absurd (false_true b)
  bunch_has form.Scope b = absurd (false_true b)
  bunch_has (form.RawNode n) b = absurd (false_true b)
  bunch_has form.Global b = absurd (false_true b)

pub visible_form : (w : ℕ) (c : PlainCell) → is_visible w c ≡ true → is_visible_form c.form ≡ true
visible_form w c = by (widget_of c.owner)
  where
    by : (o : Option ℕ) → option_map_or (λ v. nat_eq v w && is_visible_form c.form) o false ≡ true → is_visible_form c.form ≡ true
    by None h = absurd (false_true h)
    by (Some v) h = (both _ (is_visible_form c.form) h).1

pub visible_no_scope : (f : Form) → is_visible_form f ≡ true → is_scope f ≡ false
visible_no_scope form.Scope h = absurd (false_true h)
visible_no_scope form.Object h = refl
visible_no_scope form.Array h = refl
visible_no_scope (form.Function p) h = refl
visible_no_scope form.Bunch h = refl
visible_no_scope (form.Native n) h = refl
visible_no_scope (form.RawNode n) h = refl
visible_no_scope form.Global h = refl

-- a frozen form is neither that of a scope nor that of a Bunch
frozen_is : (f : Form) → is_frozen_form f ≡ true → (is_scope f ≡ false) × (is_bunch f ≡ false)
frozen_is form.Object h = (refl, refl)
frozen_is (form.Native n) h = (refl, refl)
frozen_is form.Scope h = absurd (false_true h)
frozen_is form.Array h = absurd (false_true h)
frozen_is (form.Function p) h = absurd (false_true h)
frozen_is form.Bunch h = absurd (false_true h)
frozen_is (form.RawNode n) h = absurd (false_true h)
frozen_is form.Global h = absurd (false_true h)

-- what a cell of the table leads to
module _ (c : PlainCell) (h : leads_on c ≡ true) where
  pub leads_form : is_frozen_form c.form ≡ true
  leads_form = (both (is_frozen_form c.form) _ (both (is_host_owner c.owner) _ h).1).0

  leads_up : option_map_or is_permitted_cell c.up true ≡ true
  leads_up = (both (option_map_or is_permitted_cell c.up true) _ (both (is_frozen_form c.form) _ (both (is_host_owner c.owner) _ h).1).1).0

  leads_pairs : list_all (λ p. is_permitted_value p.1) c.pairs ≡ true
  leads_pairs = (both (option_map_or is_permitted_cell c.up true) _ (both (is_frozen_form c.form) _ (both (is_host_owner c.owner) _ h).1).1).1

module _ (fs : List Forest) (r : Rest) (w : ℕ) (s : Cells) (confined : IsConfined fs w s) (laws : AreLawful s.cells) (x : List ℕ) where
  abbrev st : State
  st = image fs r w s

  -- the cell at a number
  pub cell_is : (i : ℕ) (c : PlainCell) → slice_get s.cells i ≡ Some c → is_visible w c ≡ true → cell_at st (own_count w s.cells i) ≡ meant_cell fs r.nodes (own_cell w s.cells c)
  unfolding owned
  cell_is i c at mine =
      get_or_from_slice_get (map (meant_cell fs r.nodes) (own_cells w s.cells s.cells)) (own_count w s.cells i) (meant_cell fs r.nodes (own_cell w s.cells c)) _
      (slice_get-map (meant_cell fs r.nodes) (own_cells w s.cells s.cells) (own_count w s.cells i) ∙ ap (option_map (meant_cell fs r.nodes)) (heap_at (is_visible w) (own_cell w s.cells) s.cells i c at mine))

  pub visible_is : (i : ℕ) (c : PlainCell) → slice_get s.cells i ≡ Some c → visible_at w s.cells i ≡ is_visible w c
  visible_is i c at = ap (λ (o : Option PlainCell). option_map_or (is_visible w) o false) at

  bunch_is : (i : ℕ) (c : PlainCell) → slice_get s.cells i ≡ Some c → is_bunch_at s.cells i ≡ is_bunch c.form
  bunch_is i c at = ap (λ (o : Option PlainCell). option_map_or (λ d. is_bunch d.form) o false) at

  pub own_link_is : (i : ℕ) → visible_at w s.cells i ≡ true → seen w s.cells (value.Ref i) ≡ meaning.Own (own_count w s.cells i)
  own_link_is i e = ap (λ b. meant (if b then store.Own (own_count w s.cells i) else store.Other i)) e

  pub permitted_else : (i : ℕ) → IsHeld w s.cells i → visible_at w s.cells i ≡ false → is_permitted_cell i ≡ true
  permitted_else i held e = sym (ap (λ b. b || is_permitted_cell i) e) ∙ held.1

  -- an own property of a cell that the widget holds
  pub own_is : (i : ℕ) (c : PlainCell) → slice_get s.cells i ≡ Some c → IsHeld w s.cells i → is_bunch c.form ≡ false → own_property st (seen w s.cells (value.Ref i)) x ≡ option_map (seen w s.cells) (value_of c.pairs x)
  own_is i c at held plain = by (visible_at w s.cells i) refl
    where
      by : (b : Bool) → visible_at w s.cells i ≡ b → own_property st (seen w s.cells (value.Ref i)) x ≡ option_map (seen w s.cells) (value_of c.pairs x)
      by true e =
          let mine = sym (visible_is i c at) ∙ e in
          ap (λ v. own_property st v x) (own_link_is i e)
          ∙ ap (λ (d : Cell). kind_property d.kind d.pairs x) (cell_is i c at mine)
          ∙ by_form fs r.nodes w s.cells c x c.form plain (laws.lengths i c at) (visible_form w c mine)
      by false e =
          let p = permitted_else i held e in
          ap (λ v. own_property st v x) (host_link w s.cells laws i p)
          ∙ entry_own w s.cells laws (entry_at i) x
          ∙ ap (λ (d : PlainCell). option_map (seen w s.cells) (value_of d.pairs x)) (sym (host_is w s.cells laws i c p at))

  -- a Bunch has none
  pub own_nothing : (i : ℕ) (c : PlainCell) → slice_get s.cells i ≡ Some c → IsHeld w s.cells i → is_bunch c.form ≡ true → own_property st (seen w s.cells (value.Ref i)) x ≡ None
  own_nothing i c at held bunch = by (visible_at w s.cells i) refl
    where
      by : (b : Bool) → visible_at w s.cells i ≡ b → own_property st (seen w s.cells (value.Ref i)) x ≡ None
      by true e =
          ap (λ v. own_property st v x) (own_link_is i e)
          ∙ ap (λ (d : Cell). kind_property d.kind d.pairs x) (cell_is i c at (sym (visible_is i c at) ∙ e))
          ∙ bunch_has fs r.nodes w s.cells c x c.form bunch
      by false e = absurd (false_true (sym (frozen_is c.form (leads_form c (leads_at w s.cells laws i c at (permitted_else i held e)))).1 ∙ bunch))

  -- its prototype
  pub proto_is : (i : ℕ) (c : PlainCell) → slice_get s.cells i ≡ Some c → IsHeld w s.cells i → prototype st (seen w s.cells (value.Ref i)) ≡ option_map (λ j. seen w s.cells (value.Ref j)) c.up
  proto_is i c at held = by (visible_at w s.cells i) refl
    where
      up_own : (o : Option ℕ) → is_some o ≡ true → Some (option_map_or meant (option_map (own_link w s.cells) o) meaning.Undefined) ≡ option_map (λ j. seen w s.cells (value.Ref j)) o
      up_own None h = absurd (false_true h)
      up_own (Some j) h = refl

      by : (b : Bool) → visible_at w s.cells i ≡ b → prototype st (seen w s.cells (value.Ref i)) ≡ option_map (λ j. seen w s.cells (value.Ref j)) c.up
      by true e =
          let mine = sym (visible_is i c at) ∙ e in
          ap (prototype st) (own_link_is i e) ∙ ap (λ (d : Cell). Some d.prototype) (cell_is i c at mine) ∙ up_own c.up (laws.based w i c at mine).based
      by false e =
          let p = permitted_else i held e in
          ap (prototype st) (host_link w s.cells laws i p)
          ∙ entry_proto w s.cells laws (entry_at i)
          ∙ ap (λ (d : PlainCell). option_map (λ j. seen w s.cells (value.Ref j)) d.up) (sym (host_is w s.cells laws i c p at))

  -- what holds of a prototype
  pub up_held : (i j : ℕ) (c : PlainCell) → slice_get s.cells i ≡ Some c → IsHeld w s.cells i → c.up ≡ Some j → IsHeld w s.cells j × (is_bunch_at s.cells j ≡ false)
  up_held i j c at held e = by (visible_at w s.cells i) refl
    where
      by : (b : Bool) → visible_at w s.cells i ≡ b → IsHeld w s.cells j × (is_bunch_at s.cells j ≡ false)
      by true v =
          let mine = sym (visible_is i c at) ∙ v in (
            subst (λ (o : Option ℕ). IfSome o (IsHeld w s.cells)) e ((confined.each i c at).cell mine).up,
            subst (λ (o : Option ℕ). IfSome o (λ k. is_bunch_at s.cells k ≡ false)) e (laws.based w i c at mine).unbunched,
          )
      by false v =
          let p = permitted_else i held v in
          let q : is_permitted_cell j ≡ true = sym (ap (λ (o : Option ℕ). option_map_or is_permitted_cell o true) e) ∙ leads_up c (leads_at w s.cells laws i c at p) in
          let h = permitted_held w s.cells laws j q in
          let d = get_there s.cells j h.0 in
          (h, bunch_is j d.0 d.1 ∙ (frozen_is d.0.form (leads_form d.0 (leads_at w s.cells laws j d.0 d.1 q))).1)

  -- a prototype or outer scope is older
  pub older : (i j : ℕ) (c : PlainCell) → slice_get s.cells i ≡ Some c → c.up ≡ Some j → j < i
  older i j c at e = (subst (λ (o : Option ℕ). IfSome o (λ k. (k < i) × (is_scope_at s.cells k ≡ is_scope c.form))) e (laws.linked i c at).up).0

  abbrev along : ℕ → Option ℕ → List PlainCell
  along f o = links (λ c. c.up) f s.cells o

  abbrev Reads : ℕ → Type 0
  Reads f = (n i : ℕ) → i < f → IsHeld w s.cells i → is_bunch_at s.cells i ≡ false → length (along f (Some i)) ≤ n
      → on_chain n st (Some (seen w s.cells (value.Ref i))) x ≡ option_map (seen w s.cells) (first_own x (along f (Some i)))

  -- the first own property along the prototypes
  chain_is : (f : ℕ) → Reads f
  chain_is zero n i lt held plain few = absurd (omega (arith, lt))
  chain_is (suc f) n i lt held plain few = by (λ m j l h p q. chain_is f m j l h p q) (slice_get s.cells i) refl n few
    where
      up : Reads f → (c : PlainCell) → slice_get s.cells i ≡ Some c → (m : ℕ) (o : Option ℕ) → c.up ≡ o → length (along f o) ≤ m → on_chain m st (option_map (λ j. seen w s.cells (value.Ref j)) o) x ≡ option_map (seen w s.cells) (first_own x (along f o))
      up again c at m None e few = none_up f m
        where
          none_up : (f m : ℕ) → on_chain m st None x ≡ option_map (seen w s.cells) (first_own x (along f None))
          none_up zero zero = refl
          none_up zero (suc m) = refl
          none_up (suc f) zero = refl
          none_up (suc f) (suc m) = refl
      up again c at m (Some j) e few =
          let h = up_held i j c at held e in
          again m j (omega (arith, older i j c at e, lt)) h.0 h.1 few

      by : Reads f → (o : Option PlainCell) → slice_get s.cells i ≡ o → (m : ℕ) → length (option_map_or (λ c. c ∷ along f c.up) o []) ≤ m
          → on_chain m st (Some (seen w s.cells (value.Ref i))) x ≡ option_map (seen w s.cells) (first_own x (option_map_or (λ c. c ∷ along f c.up) o []))
      by again None e m l = absurd (none_some (sym e ∙ (get_there s.cells i held.0).1))
      by again (Some c) e zero l = absurd (omega (arith, l))
      by again (Some c) e (suc m) l =
          ap (λ o. or_else o (λ _. on_chain m st (prototype st (seen w s.cells (value.Ref i))) x)) (own_is i c e held (sym (bunch_is i c e) ∙ plain))
          ∙ or_else_map (seen w s.cells) (value_of c.pairs x) (first_own x (along f c.up)) (on_chain m st (prototype st (seen w s.cells (value.Ref i))) x) (ap (λ o. on_chain m st o x) (proto_is i c e held) ∙ up again c e m c.up refl (omega (arith, l)))
          ∙ ap (option_map (seen w s.cells)) (sym (first_step x c (along f c.up)))

  -- pairs of the table
  permitted_pairs : (ps : List (List ℕ × Value)) → list_all (λ p. is_permitted_value p.1) ps ≡ true → ArePairs w s.cells ps
  permitted_pairs [] h = tt
  permitted_pairs (p ∷ ps) h = (one_fine p.1 (both (is_permitted_value p.1) _ h).0, permitted_pairs ps (both (is_permitted_value p.1) _ h).1)
    where
      one_fine : (v : Value) → is_permitted_value v ≡ true → IsFine w s.cells v
      one_fine value.Undefined h = tt
      one_fine value.Null h = tt
      one_fine (value.Bool b) h = tt
      one_fine (value.Num n) h = tt
      one_fine (value.Text t) h = tt
      one_fine (value.Ref i) h = permitted_held w s.cells laws i h

  held_pairs : (i : ℕ) (c : PlainCell) → slice_get s.cells i ≡ Some c → IsHeld w s.cells i → is_bunch c.form ≡ false → ArePairs w s.cells c.pairs
  held_pairs i c at held plain = by (visible_at w s.cells i) refl
    where
      by : (b : Bool) → visible_at w s.cells i ≡ b → ArePairs w s.cells c.pairs
      by true e = ((confined.each i c at).cell (sym (visible_is i c at) ∙ e)).pairs plain
      by false e = permitted_pairs c.pairs (leads_pairs c (leads_at w s.cells laws i c at (permitted_else i held e)))

  abbrev Fine : ℕ → Type 0
  Fine f = (i : ℕ) → i < f → IsHeld w s.cells i → is_bunch_at s.cells i ≡ false → IfSome (first_own x (along f (Some i))) (IsFine w s.cells)

  -- the first own value along the prototypes is fine
  chain_fine : (f : ℕ) → Fine f
  chain_fine zero i lt held plain = tt
  chain_fine (suc f) i lt held plain =
      let c = get_there s.cells i held.0 in
      subst (λ (o : Option PlainCell). IfSome (first_own x (option_map_or (λ d. d ∷ along f d.up) o [])) (IsFine w s.cells)) (sym c.1)
      (subst (λ (o : Option Value). IfSome o (IsFine w s.cells)) (sym (first_step x c.0 (along f c.0.up))) (by c.0 c.1 (value_of c.0.pairs x) (found_fine w s.cells x c.0.pairs (held_pairs i c.0 c.1 held (sym (bunch_is i c.0 c.1) ∙ plain))) (λ o e. up c.0 c.1 (λ j l h p. chain_fine f j l h p) o e)))
    where
      up : (c : PlainCell) → slice_get s.cells i ≡ Some c → Fine f → (o : Option ℕ) → c.up ≡ o → IfSome (first_own x (along f o)) (IsFine w s.cells)
      up c at again None e = none_up f
        where
          none_up : (f : ℕ) → IfSome (first_own x (along f None)) (IsFine w s.cells)
          none_up zero = tt
          none_up (suc f) = tt
      up c at again (Some j) e =
          let h = up_held i j c at held e in
          again j (omega (arith, older i j c at e, lt)) h.0 h.1

      by : (c : PlainCell) → slice_get s.cells i ≡ Some c → (o : Option Value) → IfSome o (IsFine w s.cells) → ((p : Option ℕ) → c.up ≡ p → IfSome (first_own x (along f p)) (IsFine w s.cells)) → IfSome (or_else o (λ _. first_own x (along f c.up))) (IsFine w s.cells)
      by c at (Some v) h out = h
      by c at None h out = out c.up refl

  -- steps enough give the whole chain
  same_along : (f g : ℕ) (o : Option ℕ) → IfSome o (λ k. k < f) → IfSome o (λ k. k < g) → along f o ≡ along g o
  same_along zero zero o a b = refl
  same_along zero (suc g) None a b = refl
  same_along zero (suc g) (Some k) a b = absurd (omega (arith, a))
  same_along (suc f) zero None a b = refl
  same_along (suc f) zero (Some k) a b = absurd (omega (arith, b))
  same_along (suc f) (suc g) None a b = refl
  same_along (suc f) (suc g) (Some k) a b = by (λ o p q. same_along f g o p q) (slice_get s.cells k) refl
    where
      by : ((o : Option ℕ) → IfSome o (λ k. k < f) → IfSome o (λ k. k < g) → along f o ≡ along g o) → (o : Option PlainCell) → slice_get s.cells k ≡ o → option_map_or (λ c. c ∷ along f c.up) o [] ≡ option_map_or (λ c. c ∷ along g c.up) o []
      by again None e = refl
      by again (Some c) e = ap (λ l. c ∷ l) (again c.up (low f a c.up refl) (low g b c.up refl))
        where
          low : (m : ℕ) → k < suc m → (o : Option ℕ) → c.up ≡ o → IfSome o (λ j. j < m)
          low m lt None u = tt
          low m lt (Some j) u = omega (arith, lt, older k j c e u)

  pub not_scope : (i : ℕ) (c : PlainCell) → slice_get s.cells i ≡ Some c → IsHeld w s.cells i → is_scope_at s.cells i ≡ false
  not_scope i c at held = ap (λ (o : Option PlainCell). option_map_or (λ d. is_scope d.form) o false) at ∙ by (visible_at w s.cells i) refl
    where
      by : (b : Bool) → visible_at w s.cells i ≡ b → is_scope c.form ≡ false
      by true e = visible_no_scope c.form (visible_form w c (sym (visible_is i c at) ∙ e))
      by false e = (frozen_is c.form (leads_form c (leads_at w s.cells laws i c at (permitted_else i held e)))).0

  -- What is read from a held cell, and that it is fine.
  record IsRead (i : ℕ) : Type 0 where
    same : on_chain 101 st (Some (seen w s.cells (value.Ref i))) x ≡ option_map (seen w s.cells) (first_own x (readable s.cells i))
    fine : IfSome (first_own x (readable s.cells i)) (IsFine w s.cells)

  read_plain : (i : ℕ) (c : PlainCell) → slice_get s.cells i ≡ Some c → IsHeld w s.cells i → is_bunch c.form ≡ false → length (chain s.cells i) ≤ 101 → IsRead i
  read_plain i c at held plain short =
      let start : readable s.cells i ≡ chain s.cells i = ap (λ (o : Option PlainCell). option_map_or (chain s.cells) (option_and_then (λ d. if is_bunch d.form then d.up else Some i) o) []) at ∙ ap (λ b. option_map_or (chain s.cells) (if b then c.up else Some i) []) plain in
      let p = bunch_is i c at ∙ plain in
      record {
        same = chain_is (length s.cells) 101 i held.0 held p short ∙ ap (λ l. option_map (seen w s.cells) (first_own x l)) (sym start);
        fine = subst (λ (l : List PlainCell). IfSome (first_own x l) (IsFine w s.cells)) (sym start) (chain_fine (length s.cells) i held.0 held p);
      }

  read_bunch : (i : ℕ) (c : PlainCell) → slice_get s.cells i ≡ Some c → IsHeld w s.cells i → is_bunch c.form ≡ true → length (chain s.cells i) ≤ 101 → IsRead i
  read_bunch i c at held bunch short = by (visible_at w s.cells i) refl
    where
      start : readable s.cells i ≡ option_map_or (chain s.cells) c.up []
      start = ap (λ (o : Option PlainCell). option_map_or (chain s.cells) (option_and_then (λ d. if is_bunch d.form then d.up else Some i) o) []) at ∙ ap (λ b. option_map_or (chain s.cells) (if b then c.up else Some i) []) bunch

      -- the chain from the prototype is one shorter
      rest : (f j : ℕ) → f ≡ length s.cells → c.up ≡ Some j → length (along f (Some i)) ≤ 101 → length (along f (Some j)) ≤ 100
      rest zero j e u l = omega arith
      rest (suc g) j e u l =
          let a : length (along (suc g) (Some i)) ≡ suc (length (along g (Some j))) = ap (λ (o : Option PlainCell). length (option_map_or (λ d. d ∷ along g d.up) o [])) at ∙ ap (λ (o : Option ℕ). suc (length (along g o))) u in
          let i_low : i < suc g = subst (λ n. i < n) (sym e) held.0 in
          let b : along (suc g) (Some j) ≡ along g (Some j) = same_along (suc g) g (Some j) (omega (arith, i_low, older i j c at u)) (omega (arith, i_low, older i j c at u)) in
          omega (arith, l, a, ap length b)

      up : (o : Option ℕ) → c.up ≡ o → is_some o ≡ true → is_visible w c ≡ true → visible_at w s.cells i ≡ true → IsRead i
      up None u h mine e = absurd (false_true h)
      up (Some j) u h mine e =
          let d = up_held i j c at held u in
          let few = rest (length s.cells) j refl u short in
          let start_j : readable s.cells i ≡ chain s.cells j = start ∙ ap (λ (o : Option ℕ). option_map_or (chain s.cells) o []) u in
          record {
            same =
                ap (λ o. or_else o (λ _. on_chain 100 st (prototype st (seen w s.cells (value.Ref i))) x)) (own_nothing i c at held bunch)
                ∙ ap (λ o. on_chain 100 st o x) (proto_is i c at held ∙ ap (option_map (λ k. seen w s.cells (value.Ref k))) u)
                ∙ chain_is (length s.cells) 100 j d.0.0 d.0 d.1 few
                ∙ ap (λ l. option_map (seen w s.cells) (first_own x l)) (sym start_j);
            fine = subst (λ (l : List PlainCell). IfSome (first_own x l) (IsFine w s.cells)) (sym start_j) (chain_fine (length s.cells) j d.0.0 d.0 d.1);
          }

      by : (b : Bool) → visible_at w s.cells i ≡ b → IsRead i
      by true e =
          let mine = sym (visible_is i c at) ∙ e in
          up c.up refl (laws.based w i c at mine).based mine e
      by false e = absurd (false_true (sym (frozen_is c.form (leads_form c (leads_at w s.cells laws i c at (permitted_else i held e)))).1 ∙ bunch))

  read_is : (i : ℕ) → IsHeld w s.cells i → (n : ℕ) → n ≡ prototypes s.cells i → n ≤ 100 → IsRead i
  read_is i held n is few =
      let c = get_there s.cells i held.0 in
      let short : length (chain s.cells i) ≤ 101 = omega (arith, few, is ∙ ap (λ b. if b then 0 else length (chain s.cells i) - 1) (not_scope i c.0 c.1 held)) in
      by c.0 c.1 (is_bunch c.0.form) refl short
    where
      by : (c : PlainCell) → slice_get s.cells i ≡ Some c → (b : Bool) → is_bunch c.form ≡ b → length (chain s.cells i) ≤ 101 → IsRead i
      by c at true e short = read_bunch i c at held e short
      by c at false e short = read_plain i c at held e short

  -- whether a read finds something
  pub some_is : (i : ℕ) → IsHeld w s.cells i → prototypes s.cells i ≤ 100 → is_some (first_own x (readable s.cells i)) ≡ is_some (on_chain 101 st (Some (seen w s.cells (value.Ref i))) x)
  some_is i held few = by (first_own x (readable s.cells i)) ∙ sym (ap is_some (read_is i held (prototypes s.cells i) refl few).same)
    where
      by : (o : Option Value) → is_some o ≡ is_some (option_map (seen w s.cells) o)
      by None = refl
      by (Some v) = refl

  -- a property of a held cell is along its chain
  pub property_is : (i : ℕ) → IsHeld w s.cells i → property st (seen w s.cells (value.Ref i)) x ≡ on_chain 101 st (Some (seen w s.cells (value.Ref i))) x
  property_is i held = by (visible_at w s.cells i) refl
    where
      by : (b : Bool) → visible_at w s.cells i ≡ b → property st (seen w s.cells (value.Ref i)) x ≡ on_chain 101 st (Some (seen w s.cells (value.Ref i))) x
      by true e = ap (λ v. property st v x) (own_link_is i e) ∙ sym (ap (λ v. on_chain 101 st (Some v) x) (own_link_is i e))
      by false e =
          let p = host_link w s.cells laws i (permitted_else i held e) in
          ap (λ v. property st v x) p ∙ sym (ap (λ v. on_chain 101 st (Some v) x) p)

  -- what a read gives
  pub value_is : (i : ℕ) → IsHeld w s.cells i → (n : ℕ) → n ≡ prototypes s.cells i → n ≤ 100 → (v : Value) → v ≡ unwrap_or (first_own x (readable s.cells i)) value.Undefined
      → (seen w s.cells v ≡ unwrap_or (on_chain 101 st (Some (seen w s.cells (value.Ref i))) x) meaning.Undefined) × IsFine w s.cells v
  value_is i held n is few v e =
      let a = read_is i held n is few in
      let both_are = by (first_own x (readable s.cells i)) a.fine in
      (ap (seen w s.cells) e ∙ both_are.0 ∙ ap (λ o. unwrap_or o meaning.Undefined) (sym a.same), subst (IsFine w s.cells) (sym e) both_are.1)
    where
      by : (o : Option Value) → IfSome o (IsFine w s.cells) → (seen w s.cells (unwrap_or o value.Undefined) ≡ unwrap_or (option_map (seen w s.cells) o) meaning.Undefined) × IsFine w s.cells (unwrap_or o value.Undefined)
      by None f = (refl, tt)
      by (Some u) f = (refl, f)
