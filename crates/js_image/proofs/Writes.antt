-- What is written, as the widget sees it.
use Rattle.std.proofs.Common.{◌≡◌, ℕ, zero, suc, List, [], ◌∷◌, ◌++◌, length, refl, sym, ap, ◌∙◌, subst, Option, Some, None, arith, Bool, true, false, cond, eqb, if◌then◌else◌, slice_get, map, is_some}
use Rattle.std.specs.Prelude.{IfSome, ◌&&◌, slice_set}
use Rattle.std.specs.Option.{option_map, option_map_or}
use Rattle.std.specs.Str.{bytes_eq}
use Rattle.std.proofs.lemmas.Bool.Decides.{nat_tests}
use Rattle.std.proofs.lemmas.Option.{slice_get-map}
use Rattle.indexmap.specs.IndexMap.{insert_entry}
use Rattle.js_tree.specs.Forest.{Forest}
use Rattle.store_cells.specs.declared.value.Value.{Value}
use Rattle.store_cells.specs.Lists.{changed}
use Rattle.store_cells.specs.Arrays.{written}
use Rattle.store_cells.specs.Cells.{Cells, PlainCell, holder, is_scope, value_of, widget_of}
use Rattle.store_cells.proofs.Lists.{changed-set, map-changed}
use Rattle.object_store.specs.Calls.{var_done}
use Rattle.object_store.specs.Grows.{Grows}
use Rattle.object_store.specs.Owned.{Assigned, OwnScope, OwnValue, SeesSet, is_held_by, is_of, is_of_at, is_own_scope, is_own_scope_at, own_pairs, own_scope, own_scopes, own_set, own_value, owned, scope_number}
use Rattle.widget_meaning.specs.OwnState as state
use Rattle.widget_meaning.specs.OwnState.{Scope, State, replaced, with_scope}
use Rattle.widget_meaning.specs.Scopes.{scope_having, set_in, set_pair}
use Rattle.js_image.specs.Image.{Rest, image, meant, meant_pairs, meant_scope, no_rest, seen, state_of}
use Rattle.js_image.specs.Held.{ArePairs, CountsRise, IsConfined, IsFine, IsFineFor, IsOwnScope, Kept}
use Rattle.js_image.proofs.Nodes.{hold_same, rise_same}
use Rattle.js_image.specs.Laws.{AreLawful}
use Rattle.js_image.proofs.Chains.{heap_at, looked, visible_form, visible_no_scope}
use Rattle.js_image.proofs.Grown.{cell_stays, fine_stays, kept_same, passed_over}
use Rattle.js_image.proofs.Variables.{found_scope, holds, own_there, scope_is}

false_true : false ≡ true → ⊥
false_true h = cc

none_some : {A : Type 0} {a : A} → None ≡ Some a → ⊥
none_some h = cc

some_same : {A : Type 0} (a b : A) → Some a ≡ Some b → a ≡ b
some_same a b e = cc

-- a pair is written over, or put in last
pub insert_has : (ps : List (List ℕ × OwnValue)) (x : List ℕ) (u : OwnValue) → is_some (state.lookup (meant_pairs ps) x) ≡ true → meant_pairs (insert_entry bytes_eq ps x u) ≡ replaced (meant_pairs ps) x (meant u)
insert_has [] x u h = absurd (false_true h)
insert_has (p ∷ ps) x u h = by (bytes_eq x p.0) h (insert_has ps x u)
  where
    by : (b : Bool) → is_some (cond b (Some (meant p.1)) (state.lookup (meant_pairs ps) x)) ≡ true → (is_some (state.lookup (meant_pairs ps) x) ≡ true → meant_pairs (insert_entry bytes_eq ps x u) ≡ replaced (meant_pairs ps) x (meant u))
        → meant_pairs (if b then (p.0, u) ∷ ps else p ∷ insert_entry bytes_eq ps x u) ≡ (if b then (p.0, meant u) ∷ meant_pairs ps else (p.0, meant p.1) ∷ replaced (meant_pairs ps) x (meant u))
    by true h g = refl
    by false h g = ap (λ l. (p.0, meant p.1) ∷ l) (g h)

pub insert_new : (ps : List (List ℕ × OwnValue)) (x : List ℕ) (u : OwnValue) → is_some (state.lookup (meant_pairs ps) x) ≡ false → meant_pairs (insert_entry bytes_eq ps x u) ≡ meant_pairs ps ++ (x, meant u) ∷ []
insert_new [] x u h = refl
insert_new (p ∷ ps) x u h = by (bytes_eq x p.0) h (insert_new ps x u)
  where
    by : (b : Bool) → is_some (cond b (Some (meant p.1)) (state.lookup (meant_pairs ps) x)) ≡ false → (is_some (state.lookup (meant_pairs ps) x) ≡ false → meant_pairs (insert_entry bytes_eq ps x u) ≡ meant_pairs ps ++ (x, meant u) ∷ [])
        → meant_pairs (if b then (p.0, u) ∷ ps else p ∷ insert_entry bytes_eq ps x u) ≡ (p.0, meant p.1) ∷ meant_pairs ps ++ (x, meant u) ∷ []
    by true h g = absurd (false_true (sym h))
    by false h g = ap (λ l. (p.0, meant p.1) ∷ l) (g h)

-- pairs after a fine value was written
pub insert_fine : (w : ℕ) (cells : List PlainCell) (ps : List (List ℕ × Value)) (x : List ℕ) (v : Value) → ArePairs w cells ps → IsFine w cells v → ArePairs w cells (insert_entry bytes_eq ps x v)
insert_fine w cells [] x v h f = (f, tt)
insert_fine w cells (p ∷ ps) x v h f = by (bytes_eq x p.0) (insert_fine w cells ps x v h.1 f)
  where
    by : (b : Bool) → ArePairs w cells (insert_entry bytes_eq ps x v) → ArePairs w cells (if b then (p.0, v) ∷ ps else p ∷ insert_entry bytes_eq ps x v)
    by true g = (f, h.1)
    by false g = (h.0, g)

-- an element after a change of one
changed_at : (cells : List PlainCell) (i k : ℕ) (f : PlainCell → PlainCell) (P : PlainCell → Type 0) → ((k : ℕ) (c : PlainCell) → slice_get cells k ≡ Some c → P c) → ((c : PlainCell) → slice_get cells i ≡ Some c → P (f c)) → (c : PlainCell) → slice_get (changed cells i f) k ≡ Some c → P c
changed_at [] i k f P old new c at = absurd (none_some at)
changed_at (d ∷ cells) zero zero f P old new c at = subst P (some_same (f d) c at) (new d refl)
changed_at (d ∷ cells) zero (suc k) f P old new c at = old (suc k) c at
changed_at (d ∷ cells) (suc i) zero f P old new c at = old 0 c at
changed_at (d ∷ cells) (suc i) (suc k) f P old new c at = changed_at cells i k f P (λ j e a. old (suc j) e a) new c at

-- one cell was changed to one that leads to what the widget may hold
pub confined_changed : (fs : List Forest) (w : ℕ) (s t : Cells) (i : ℕ) (f : PlainCell → PlainCell) → t.cells ≡ changed s.cells i f → Grows w s.cells t.cells → IsConfined fs w s → ((c : PlainCell) → slice_get s.cells i ≡ Some c → IsFineFor fs w t.cells (f c)) → IsConfined fs w t
confined_changed fs w s t i f is g h new = record {
  each = λ k c at. changed_at s.cells i k f (IsFineFor fs w t.cells) (λ j d a. cell_stays w s.cells t.cells g fs d (h.each j d a)) new c (ap (λ (l : List PlainCell). slice_get l k) (sym is) ∙ at);
}

-- another widget stays confined, where a cell was changed that is not its own
pub confined_apart : (fs : List Forest) (v : ℕ) (s t : Cells) (i : ℕ) (f : PlainCell → PlainCell) → t.cells ≡ changed s.cells i f → Grows v s.cells t.cells → ((c : PlainCell) → slice_get s.cells i ≡ Some c → is_of v (f c).owner ≡ false) → IsConfined fs v s → IsConfined fs v t
confined_apart fs v s t i f is g none h = confined_changed fs v s t i f is g h (λ c at. passed_over fs v t.cells (f c) (none c at))

-- the cell at a place is not a widget's
pub none_at : (v : ℕ) (cells : List PlainCell) (i : ℕ) → is_of_at v cells i ≡ false → (c : PlainCell) → slice_get cells i ≡ Some c → is_of v c.owner ≡ false
none_at v cells i h c at = sym (ap (λ (o : Option PlainCell). option_map_or (λ (d : PlainCell). is_of v d.owner) o false) at) ∙ h

-- whose a cell of a widget is
eqb_other : (v w : ℕ) → (w ≡ v → ⊥) → (o : Option ℕ) → option_map_or (λ u. eqb u w) o false ≡ true → option_map_or (λ u. eqb u v) o false ≡ false
eqb_other v w apart None h = refl
eqb_other v w apart (Some u) h = grind (arith, nat_tests, h, apart)

pub not_anothers : (v w : ℕ) → (w ≡ v → ⊥) → (c : PlainCell) → is_of w c.owner ≡ true → is_of v c.owner ≡ false
not_anothers v w apart c h = eqb_other v w apart (widget_of c.owner) h

both : (a b : Bool) → (a && b) ≡ true → (a ≡ true) × (b ≡ true)
both true b h = (refl, h)
both false b h = absurd (false_true h)

-- a variable that is written
module _ (fs : List Forest) (w : ℕ) (old new : Cells) (laws : AreLawful old.cells) (x : List ℕ) (v : Value) (i : ℕ) (done : new ≡ var_done old i x v) where
  -- no scope has the name
  none_set : holder old.cells i x ≡ None → new ≡ old
  none_set e = done ∙ ap (λ (o : Option ℕ). record old { cells = option_map_or (λ h. changed old.cells h (written x v)) o old.cells }) e

  -- the cells after a write
  set_cells : (h : ℕ) → holder old.cells i x ≡ Some h → new.cells ≡ changed old.cells h (written x v)
  set_cells h e = ap (λ (t : Cells). t.cells) done ∙ ap (λ (o : Option ℕ). option_map_or (λ k. changed old.cells k (written x v)) o old.cells) e

  pub set_kept : IsOwnScope w old.cells i → IsFine w old.cells v → SeesSet w old new i x v → ((v : ℕ) → Grows v old.cells new.cells) → ((u : ℕ) → is_held_by u old.cells i x ≡ false → owned u new ≡ owned u old) → IsConfined fs w old → Kept fs w old new
  set_kept own fine sees grows others confined = by (holder old.cells i x) refl
    where
      by : (o : Option ℕ) → holder old.cells i x ≡ o → Kept fs w old new
      by None e = kept_same fs w old new (none_set e)
      by (Some h) e =
          let a = holds fs no_rest w old confined laws x i h own e in
          let c = own_there fs no_rest w old confined laws x h a.own in
          let b : Assigned w old new h (own_set x (own_value w old.cells v)) = subst (λ (o : Option ℕ). IfSome o (λ k. is_own_scope_at w old.cells k ≡ true → Assigned w old new k (own_set x (own_value w old.cells v)))) e sees a.own.1 in
          record {
            confined = λ k. confined_changed fs w old new h (written x v) (set_cells h e) (grows w) k (λ d at. fine_set d at (k.each h d at));
            grows = grows w;
            others_grow = λ v apart. grows v;
            others_confined = λ gs u apart. confined_apart gs u old new h (written x v) (set_cells h e) (grows u) (none_at u old.cells h (not_here u apart));
            others = λ u apart. others u (ap (λ (o : Option ℕ). option_map_or (is_of_at u old.cells) o false) e ∙ not_here u apart);
            nodes = λ p. hold_same p w old new b.heap;
            counts = subst (CountsRise (owned w old).paid) (sym b.paid) (rise_same (owned w old).paid);
          }
        where
          not_here : (u : ℕ) → (w ≡ u → ⊥) → is_of_at u old.cells h ≡ false
          not_here u apart =
              let a = holds fs no_rest w old confined laws x i h own e in
              let c = own_there fs no_rest w old confined laws x h a.own in
              ap (λ (o : Option PlainCell). option_map_or (λ (d : PlainCell). is_of u d.owner) o false) c.1 ∙ not_anothers u w apart c.0 (both (is_of w c.0.owner) _ c.2).0

          scope_form : (d : PlainCell) → slice_get old.cells h ≡ Some d → is_scope d.form ≡ true
          scope_form d at =
              let a = holds fs no_rest w old confined laws x i h own e in
              let c = own_there fs no_rest w old confined laws x h a.own in
              (both (is_of w d.owner) (is_scope d.form) (ap (is_own_scope w) (some_same d c.0 (sym at ∙ c.1)) ∙ c.2)).1

          fine_set : (d : PlainCell) → slice_get old.cells h ≡ Some d → IsFineFor fs w old.cells d → IsFineFor fs w new.cells (written x v d)
          fine_set d at k =
              let m = cell_stays w old.cells new.cells (grows w) fs d k in
              record {
                cell = λ b. absurd (false_true (sym (visible_no_scope d.form (visible_form w d b)) ∙ scope_form d at));
                scope = λ b. record { outer = (m.scope b).outer; pairs = insert_fine w new.cells d.pairs x v (m.scope b).pairs (fine_stays w old.cells new.cells (grows w) v fine) };
              }

  module _ (r : Rest) (confined : IsConfined fs w old) (sees : SeesSet w old new i x v) where
    abbrev st : State
    st = image fs r w old

    -- the state after a change of one scope
    after_set : (h : ℕ) (c : PlainCell) → slice_get old.cells h ≡ Some c → is_own_scope w c ≡ true → (g : OwnScope → OwnScope) → Assigned w old new h g → image fs r w new ≡ with_scope st (scope_number w old.cells h) (meant_scope (g (own_scope w old.cells c)))
    unfolding owned
    after_set h c at mine g a =
        let n = scope_number w old.cells h in
        let here : slice_get (own_scopes w old.cells old.cells) n ≡ Some (own_scope w old.cells c) = heap_at (is_own_scope w) (own_scope w old.cells) old.cells h c at mine in
        let list : map meant_scope (changed (own_scopes w old.cells old.cells) n g) ≡ slice_set (map meant_scope (own_scopes w old.cells old.cells)) n (meant_scope (g (own_scope w old.cells c))) =
        map-changed meant_scope (own_scopes w old.cells old.cells) n g (λ d. meant_scope (g (own_scope w old.cells c))) (λ d e. ap (λ (q : OwnScope). meant_scope (g q)) (some_same d (own_scope w old.cells c) (sym e ∙ here)))
        ∙ sym (changed-set (map meant_scope (own_scopes w old.cells old.cells)) n (meant_scope (own_scope w old.cells c)) (λ d. meant_scope (g (own_scope w old.cells c))) (slice_get-map meant_scope (own_scopes w old.cells old.cells) n ∙ ap (option_map meant_scope) here)) in
        (λ j. state_of fs r (record { heap = a.heap j; scopes = a.scopes j; paid = a.paid j }))
        ∙ (λ j. record st { own = record st.own { scopes = list j } })

    pub set_is : IsOwnScope w old.cells i → image fs r w new ≡ set_in st (scope_having (length st.own.scopes) st (Some (scope_number w old.cells i)) x) x (seen w old.cells v)
    set_is own = by (holder old.cells i x) refl ∙ ap (λ o. set_in st o x (seen w old.cells v)) (sym (found_scope fs r w old confined laws x i own))
      where
        by : (o : Option ℕ) → holder old.cells i x ≡ o → image fs r w new ≡ set_in st (option_map (scope_number w old.cells) (holder old.cells i x)) x (seen w old.cells v)
        by None e = ap (image fs r w) (none_set e) ∙ sym (ap (λ o. set_in st (option_map (scope_number w old.cells) o) x (seen w old.cells v)) e)
        by (Some h) e =
            let a = holds fs no_rest w old confined laws x i h own e in
            let c = own_there fs r w old confined laws x h a.own in
            let n = scope_number w old.cells h in
            let b : Assigned w old new h (own_set x (own_value w old.cells v)) = subst (λ (o : Option ℕ). IfSome o (λ k. is_own_scope_at w old.cells k ≡ true → Assigned w old new k (own_set x (own_value w old.cells v)))) e sees a.own.1 in
            let has : is_some (state.lookup (meant_pairs (own_pairs w old.cells c.0.pairs)) x) ≡ true = ap is_some (looked w old.cells c.0.pairs x) ∙ mapped (value_of c.0.pairs x) ∙ a.has c.0 c.1 in
            after_set h c.0 c.1 c.2 (own_set x (own_value w old.cells v)) b
            ∙ ap (λ ps. with_scope st n (record { outer = (own_scope w old.cells c.0).outer; pairs = ps })) (insert_has (own_pairs w old.cells c.0.pairs) x (own_value w old.cells v) has)
            ∙ sym (ap (λ (d : Scope). with_scope st n (set_pair d x (seen w old.cells v))) (scope_is fs r w old confined laws x h c.0 c.1 c.2))
            ∙ sym (ap (λ o. set_in st (option_map (scope_number w old.cells) o) x (seen w old.cells v)) e)
          where
            mapped : (o : Option Value) → is_some (option_map (seen w old.cells) o) ≡ is_some o
            mapped None = refl
            mapped (Some u) = refl
