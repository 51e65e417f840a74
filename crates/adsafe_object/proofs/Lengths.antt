-- How many objects stand on a chain, as the widget sees it.
use Rattle.std.proofs.Common.{◌≡◌, ℕ, zero, suc, ◌<◌, ◌≤◌, List, [], ◌∷◌, length, refl, sym, ap, ◌∙◌, subst, Option, Some, None, arith, Bool, true, false, if◌then◌else◌, slice_get, is_some}
use Rattle.std.specs.Prelude.{IfSome, ◌&&◌, ◌-◌, nat_lt}
use Rattle.std.specs.Option.{option_map, option_map_or}
use Rattle.std.proofs.lemmas.Bool.Decides.{nat_tests}
use Rattle.js_tree.specs.Forest.{Forest}
use Rattle.store_cells.specs.declared.value.Value.{Value}
use Rattle.store_cells.specs.declared.value.Value.TheVariants as value
use Rattle.store_cells.specs.declared.kind.Form.{Form}
use Rattle.store_cells.specs.declared.kind.Form.TheVariants as form
use Rattle.store_cells.specs.Lists.{links}
use Rattle.store_cells.specs.Cells as cells_of
use Rattle.store_cells.specs.Cells.{Cells, PlainCell, chain, is_bunch, is_bunch_at, is_scope, is_scope_at, own_count, prototypes}
use Rattle.store_cells.specs.Host.{is_frozen_form, is_host_owner, is_permitted_cell, leads_on}
use Rattle.object_store.specs.Calls.{IsPrototype}
use Rattle.object_store.specs.Owned as store
use Rattle.object_store.specs.Owned.{own_link, visible_at}
use Rattle.widget_meaning.specs.Values as meaning
use Rattle.widget_meaning.specs.OwnState.{Cell, State, new_object}
use Rattle.widget_meaning.specs.Properties.{prototype}
use Rattle.widget_meaning.specs.AdsafeNatives.{chain_from, create, create_from}
use Rattle.widget_meaning.specs.Costs.{give, make, throw, want}
use Rattle.js_image.specs.Image.{Rest, image, meant, seen}
use Rattle.js_image.specs.Held.{IsConfined, IsFine, IsHeld}
use Rattle.js_image.specs.Laws.{AreLawful}
use Rattle.js_image.proofs.Hosts.{entry_proto, get_there, host_is, host_link, leads_at, permitted_held}
use Rattle.js_image.specs.Image.{entry_at}
use Rattle.js_image.proofs.Puts.{cell_there, permitted_else, shows}
use Rattle.adsafe_object.specs.Kinds.{base_in, is_base, is_base_kind}
use Rattle.adsafe_object.proofs.Shapes.{base_refers, base_some}

false_true : false ≡ true → ⊥
false_true h = cc

none_some : {A : Type 0} {a : A} → None ≡ Some a → ⊥
none_some h = cc

both : (a b : Bool) → (a && b) ≡ true → (a ≡ true) × (b ≡ true)
both true b h = (refl, h)
both false b h = absurd (false_true h)

-- what may be a prototype is neither a scope nor a Bunch
base_form : (f : Form) → is_base_kind (cells_of.kind_of f) ≡ true → (is_scope f ≡ false) × (is_bunch f ≡ false)
base_form form.Object h = (refl, refl)
base_form form.Array h = (refl, refl)
base_form (form.Function p) h = absurd (false_true h)
base_form (form.Native n) h = absurd (false_true h)
base_form form.Scope h = absurd (false_true h)
base_form form.Bunch h = absurd (false_true h)
base_form (form.RawNode n) h = absurd (false_true h)
base_form form.Global h = absurd (false_true h)

-- a cell of the table leads to its like
leads_up : (c : PlainCell) → leads_on c ≡ true → option_map_or is_permitted_cell c.up true ≡ true
leads_up c h = (both (option_map_or is_permitted_cell c.up true) _ (both (is_frozen_form c.form) _ (both (is_host_owner c.owner) _ h).1).1).0

module _ (fs : List Forest) (r : Rest) (w : ℕ) (s : Cells) (confined : IsConfined fs w s) (laws : AreLawful s.cells) where
  abbrev st : State
  st = image fs r w s

  -- the prototype of a held cell
  up_is : (i : ℕ) (c : PlainCell) → slice_get s.cells i ≡ Some c → IsHeld w s.cells i → prototype st (seen w s.cells (value.Ref i)) ≡ option_map (λ j. seen w s.cells (value.Ref j)) c.up
  up_is i c at held = by (visible_at w s.cells i) refl
    where
      up_own : (o : Option ℕ) → is_some o ≡ true → Some (option_map_or meant (option_map (own_link w s.cells) o) meaning.Undefined) ≡ option_map (λ j. seen w s.cells (value.Ref j)) o
      up_own None h = absurd (false_true h)
      up_own (Some j) h = refl

      by : (b : Bool) → visible_at w s.cells i ≡ b → prototype st (seen w s.cells (value.Ref i)) ≡ option_map (λ j. seen w s.cells (value.Ref j)) c.up
      by true e =
          let mine = shows w s.cells i c at ∙ e in
          ap (λ b. prototype st (meant (if b then store.Own (own_count w s.cells i) else store.Other i))) e
          ∙ ap (λ (d : Cell). Some d.prototype) (cell_there fs r w s i c at mine) ∙ up_own c.up (laws.based w i c at mine).based
      by false e =
          let p = permitted_else w s.cells i held e in
          ap (prototype st) (host_link w s.cells laws i p)
          ∙ entry_proto w s.cells laws (entry_at i)
          ∙ ap (λ (d : PlainCell). option_map (λ j. seen w s.cells (value.Ref j)) d.up) (sym (host_is w s.cells laws i c p at))

  -- a prototype is held, and older
  up_held : (i j : ℕ) (c : PlainCell) → slice_get s.cells i ≡ Some c → IsHeld w s.cells i → c.up ≡ Some j → IsHeld w s.cells j × (j < i)
  up_held i j c at held e = (by (visible_at w s.cells i) refl, (subst (λ (o : Option ℕ). IfSome o (λ k. (k < i) × (is_scope_at s.cells k ≡ is_scope c.form))) e (laws.linked i c at).up).0)
    where
      by : (b : Bool) → visible_at w s.cells i ≡ b → IsHeld w s.cells j
      by true v = subst (λ (o : Option ℕ). IfSome o (IsHeld w s.cells)) e ((confined.each i c at).cell (shows w s.cells i c at ∙ v)).up
      by false v = permitted_held w s.cells laws j (sym (ap (λ (o : Option ℕ). option_map_or is_permitted_cell o true) e) ∙ leads_up c (leads_at w s.cells laws i c at (permitted_else w s.cells i held v)))

  abbrev along : ℕ → Option ℕ → List PlainCell
  along f o = links (λ c. c.up) f s.cells o

  abbrev Counts : ℕ → Type 0
  Counts f = (n i : ℕ) → i < f → IsHeld w s.cells i → length (along f (Some i)) ≤ n → chain_from n st (Some (seen w s.cells (value.Ref i))) ≡ length (along f (Some i))

  none_from : (m : ℕ) → chain_from m st None ≡ 0
  none_from zero = refl
  none_from (suc m) = refl

  no_links : (f : ℕ) → length (along f None) ≡ 0
  no_links zero = refl
  no_links (suc f) = refl

  chain_counts : (f : ℕ) → Counts f
  chain_counts zero n i lt held few = absurd (omega (arith, lt))
  chain_counts (suc f) n i lt held few = by (λ m j l h p. chain_counts f m j l h p) (get_there s.cells i held.0) n few
    where
      up : Counts f → (c : PlainCell) → slice_get s.cells i ≡ Some c → (m : ℕ) (o : Option ℕ) → c.up ≡ o → length (along f o) ≤ m → chain_from m st (option_map (λ j. seen w s.cells (value.Ref j)) o) ≡ length (along f o)
      up again c at m None e short = none_from m ∙ sym (no_links f)
      up again c at m (Some j) e short =
          let h = up_held i j c at held e in
          again m j (omega (arith, h.1, lt)) h.0 short

      by : Counts f → (there : (c : PlainCell) × (slice_get s.cells i ≡ Some c)) (m : ℕ) → length (along (suc f) (Some i)) ≤ m → chain_from m st (Some (seen w s.cells (value.Ref i))) ≡ length (along (suc f) (Some i))
      by again there zero short = absurd (omega (arith, subst (λ (o : Option PlainCell). length (option_map_or (λ c. c ∷ along f c.up) o []) ≤ 0) there.1 short))
      by again there (suc m) short =
          let c = there.0 in
          let le : length (c ∷ along f c.up) ≤ suc m = subst (λ (o : Option PlainCell). length (option_map_or (λ d. d ∷ along f d.up) o []) ≤ suc m) there.1 short in
          ap (λ o. suc (chain_from m st o)) (up_is i c there.1 held)
          ∙ ap suc (up again c there.1 m c.up refl (omega (arith, le)))
          ∙ sym (ap (λ (o : Option PlainCell). length (option_map_or (λ d. d ∷ along f d.up) o [])) there.1)

-- what may be a prototype, by its cell
module _ (w : ℕ) (cells : List PlainCell) (i : ℕ) (held : IsHeld w cells i) (base : option_map_or (is_base w) (slice_get cells i) false ≡ true) where
  forms : (is_scope_at cells i ≡ false) × (is_bunch_at cells i ≡ false)
  forms =
      let c = get_there cells i held.0 in
      let kind = (both _ (is_base_kind (cells_of.kind_of c.0.form)) (sym (ap (λ (o : Option PlainCell). option_map_or (is_base w) o false) c.1) ∙ base)).1 in
      let f = base_form c.0.form kind in (
        ap (λ (o : Option PlainCell). option_map_or (λ d. is_scope d.form) o false) c.1 ∙ f.0,
        ap (λ (o : Option PlainCell). option_map_or (λ d. is_bunch d.form) o false) c.1 ∙ f.1,
      )

  pub base_fits : (n : ℕ) → n ≡ prototypes cells i → n < 100 → IsPrototype cells i
  base_fits n is lt = record { within = held.0; object = forms.0; unbunched = forms.1; few = subst (λ m. m < 100) is lt }

  -- the objects on its chain
  chain_some : 0 < length (chain cells i)
  chain_some = first (length cells) held.0
    where
      first : (f : ℕ) → i < f → 0 < length (links (λ c. c.up) f cells (Some i))
      first zero lt = absurd (omega (arith, lt))
      first (suc f) lt =
          let c = get_there cells i held.0 in
          subst (λ (o : Option PlainCell). 0 < length (option_map_or (λ d. d ∷ links (λ e. e.up) f cells d.up) o [])) (sym c.1) (omega arith)

  pub chain_length : (n : ℕ) → n ≡ prototypes cells i → length (chain cells i) ≡ suc n
  chain_length n is = let e : n ≡ length (chain cells i) - 1 = is ∙ ap (λ b. if b then 0 else length (chain cells i) - 1) forms.0 in omega (arith, e, chain_some)

-- whether the chain is too long for one more
pub too_long : (fs : List Forest) (r : Rest) (w : ℕ) (s : Cells) → IsConfined fs w s → AreLawful s.cells → (i : ℕ) → IsHeld w s.cells i → option_map_or (is_base w) (slice_get s.cells i) false ≡ true
    → (n : ℕ) → n ≡ prototypes s.cells i → n ≤ 100 → chain_from 101 (image fs r w s) (Some (seen w s.cells (value.Ref i))) ≡ suc n
too_long fs r w s confined laws i held base n is few =
    let l = chain_length w s.cells i held base n is in
    chain_counts fs r w s confined laws (length s.cells) 101 i held.0 held (omega (arith, l, few)) ∙ l

-- ## What `create` does

module _ (fs : List Forest) (r : Rest) (w : ℕ) (s : Cells) (confined : IsConfined fs w s) (laws : AreLawful s.cells) (v : Value) (fine : IsFine w s.cells v) (i : ℕ) (base : base_in w s.cells v ≡ Some i) (n : ℕ) (is : n ≡ prototypes s.cells i) (few : n ≤ 100) where
  abbrev here : State
  here = image fs r w s

  abbrev o : meaning.Value
  o = seen w s.cells v

  held : IsHeld w s.cells i
  held = subst (IsFine w s.cells) (base_refers w s.cells v i base).0 fine

  long : chain_from 101 here (Some o) ≡ suc n
  long = ap (λ u. chain_from 101 here (Some (seen w s.cells u))) (base_refers w s.cells v i base).0 ∙ too_long fs r w s confined laws i held (base_refers w s.cells v i base).1 n is few

  taken : create o here ≡ create_from o here
  taken = ap (λ b. want meaning.E4 b here (create_from o here)) (base_some fs r w s laws v fine ∙ ap is_some base)

  -- the chain would be too long
  pub chain_refused : 100 ≤ n → create o here ≡ throw meaning.E12 here
  chain_refused h = taken ∙ ap (λ m. if nat_lt 100 m then throw meaning.E12 here else make (new_object o []) 0 here give) long ∙ ap (λ b. if b then throw meaning.E12 here else make (new_object o []) 0 here give) (over n h)
    where
      over : (n : ℕ) → 100 ≤ n → nat_lt 100 (suc n) ≡ true
      over n h = grind (arith, nat_tests, h)

  -- the object is made
  pub chain_made : n < 100 → create o here ≡ make (new_object (seen w s.cells (value.Ref i)) []) 0 here give
  chain_made h = taken ∙ ap (λ m. if nat_lt 100 m then throw meaning.E12 here else make (new_object o []) 0 here give) long ∙ ap (λ b. if b then throw meaning.E12 here else make (new_object o []) 0 here give) (within n h) ∙ ap (λ u. make (new_object (seen w s.cells u) []) 0 here give) (base_refers w s.cells v i base).0
    where
      within : (n : ℕ) → n < 100 → nat_lt 100 (suc n) ≡ false
      within n h = grind (arith, nat_tests, h)
