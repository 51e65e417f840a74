-- An element that is put behind the last of an Array, as the widget sees it.
use Rattle.std.proofs.Common.{◌≡◌, ℕ, ◌+◌, ◌<◌, List, [], ◌∷◌, refl, sym, ap, ◌∙◌, subst, Option, Some, None, arith, Bool, true, false, if◌then◌else◌, slice_get, is_some}
use Rattle.std.specs.Prelude.{max}
use Rattle.std.specs.Fmt.{decimal}
use Rattle.std.specs.Option.{option_map, option_map_or}
use Rattle.std.specs.Str.{bytes_eq}
use Rattle.std.proofs.lemmas.Slice.Eq.{bytes_eq-Decides}
use Rattle.indexmap.specs.IndexMap.{insert_entry}
use Rattle.code_units.specs.Indices.{index_of}
use Rattle.code_units.specs.Permitted.{IsPermitted}
use Rattle.code_units.proofs.Indexed.{index_only}
use Rattle.js_tree.specs.Forest.{Forest}
use Rattle.store_cells.specs.declared.value.Value.{Value}
use Rattle.store_cells.specs.declared.value.Value.TheVariants as value
use Rattle.store_cells.specs.declared.kind.Form.{Form}
use Rattle.store_cells.specs.declared.kind.Form.TheVariants as form
use Rattle.store_cells.specs.declared.counts.StoreFault.TheVariants as fault
use Rattle.store_cells.specs.Arrays.{is_bad_length, length_name, length_of, stored}
use Rattle.store_cells.specs.Cells.{Cells, PlainCell, has_own, is_array, is_bunch, is_visible, own_count, value_of, writer_in}
use Rattle.object_store.specs.Calls.{IsPutPaid, new_refusal, paid_refusal_of}
use Rattle.object_store.specs.Grows.{Grows}
use Rattle.object_store.specs.Owned as store
use Rattle.object_store.specs.Owned.{Changed, OwnCell, OwnValue, Owned, SeesPaid, but_length, is_of, is_of_at, own_cell, own_kind, own_pairs, own_placed, own_put, own_raised, own_resized, own_length, own_stored, own_value, owned, visible_at, with_own}
use Rattle.widget_meaning.specs.OwnState as state
use Rattle.widget_meaning.specs.OwnState.{Cell, State, array_length, cell_at, kind_of, with_cell}
use Rattle.widget_meaning.specs.ListChanges.{pushed}
use Rattle.js_image.specs.Image.{Rest, image, meant, meant_cell, meant_kind, meant_pairs, seen}
use Rattle.js_image.specs.Held.{CountsRise, HoldNodes, IsFine, IsFineFor, IsHeld, Kept}
use Rattle.js_image.proofs.Nodes.{hold_changed, hold_same, pass_put, rise_same, rise_to}
use Rattle.js_image.specs.Laws.{AreLawful}
use Rattle.js_image.specs.Plans.{PushedAt}
use Rattle.js_image.proofs.Chains.{looked, looked_apart}
use Rattle.js_image.proofs.Grown.{cell_stays, fine_stays}
use Rattle.js_image.proofs.Hosts.{get_there}
use Rattle.js_image.proofs.Puts.{after_change, cell_there, hosts_of, not_others, other_pairs, same_counts, shows, stored_fine}
use Rattle.js_image.proofs.Writes.{confined_apart, confined_changed, insert_new, none_at}

none_some : {A : Type 0} {a : A} → None ≡ Some a → ⊥
none_some h = cc

some_same : {A : Type 0} (a b : A) → Some a ≡ Some b → a ≡ b
some_same a b e = cc

-- the name of an element is its index, and not `length`
index_here : (i : ℕ) → i < 4294967295 → index_of (decimal i) ≡ Some i
index_here i lt = index_only (decimal i) i lt refl

no_length : (i : ℕ) → i < 4294967295 → bytes_eq (decimal i) length_name ≡ false
no_length i lt = by (bytes_eq (decimal i) length_name) refl
  where
    by : (b : Bool) → bytes_eq (decimal i) length_name ≡ b → b ≡ false
    by false e = refl
    by true e = absurd (none_some (sym (ap index_of ((bytes_eq-Decides (decimal i) length_name).0 e)) ∙ index_here i lt))

-- what may be put under a new name has it not
none_there : (x : List ℕ) (v : Value) (c : PlainCell) → paid_refusal_of x v c ≡ None → has_own x c ≡ false
none_there x v c h = by (writer_in c.owner c.form) h
  where
    some_none : {A : Type 0} {a : A} → Some a ≡ None → ⊥
    some_none e = cc

    named : (b : Bool) → (if b then Some fault.Closed else (if is_bad_length x v c then Some fault.BadLength else None)) ≡ None → b ≡ false
    named true e = absurd (some_none e)
    named false e = refl

    by : (o : Option ℕ) → option_map_or (λ w. new_refusal x v c) o (Some fault.Closed) ≡ None → has_own x c ≡ false
    by None e = absurd (some_none e)
    by (Some w) e = named (has_own x c) e

module _ (fs : List Forest) (r : Rest) (w : ℕ) (old new : Cells) (i len : ℕ) (v : Value) where
  abbrev n : ℕ
  n = own_count w old.cells i

  abbrev st : State
  st = image fs r w old

  -- the Array is the widget's
  mine : array_length (kind_of st (seen w old.cells (value.Ref i))) ≡ Some len → visible_at w old.cells i ≡ true
  mine h = by (visible_at w old.cells i) refl
    where
      by : (b : Bool) → visible_at w old.cells i ≡ b → b ≡ true
      by true e = refl
      by false e = absurd (none_some (sym (ap (λ b. array_length (kind_of st (meant (if b then store.Own n else store.Other i)))) e) ∙ h))

  module _ (below : len < 4294967295) (c : PlainCell) (there : slice_get old.cells i ≡ Some c) (visible : is_visible w c ≡ true) (h : array_length (Some (cell_at st n).kind) ≡ Some len) where
    abbrev d : OwnCell
    d = own_cell w old.cells c

    abbrev u : OwnValue
    u = own_value w old.cells v

    array_kind : own_kind w old.cells c c.form ≡ store.Array len
    array_kind = by_form c.form (sym (ap (λ (x : Cell). array_length (Some x.kind)) (cell_there fs r w old i c there visible)) ∙ h)
      where
        by_form : (f : Form) → array_length (Some (meant_kind fs r.nodes (own_kind w old.cells c f))) ≡ Some len → own_kind w old.cells c f ≡ store.Array len
        by_form form.Object h = absurd (none_some h)
        by_form form.Array h = ap store.Array (some_same (length_of c.pairs) len h)
        by_form (form.Function p) h = absurd (none_some h)
        by_form (form.Native m) h = absurd (none_some h)
        by_form form.Scope h = absurd (none_some h)
        by_form form.Bunch h = absurd (none_some h)
        by_form (form.RawNode m) h = absurd (none_some h)
        by_form form.Global h = absurd (none_some h)

    absent : has_own (decimal len) c ≡ false → is_some (state.lookup (meant_pairs d.pairs) (decimal len)) ≡ false
    absent none = by c.form
      where
        mapped : (o : Option Value) → is_some (option_map (seen w old.cells) o) ≡ is_some o
        mapped None = refl
        mapped (Some x) = refl

        by : (f : Form) → is_some (state.lookup (meant_pairs (own_pairs w old.cells (if is_bunch f then [] else (if is_array f then but_length c.pairs else c.pairs)))) (decimal len)) ≡ false
        by f = pick (is_bunch f) (is_array f)
          where
            pick : (a b : Bool) → is_some (state.lookup (meant_pairs (own_pairs w old.cells (if a then [] else (if b then but_length c.pairs else c.pairs)))) (decimal len)) ≡ false
            pick true b = refl
            pick false true = ap is_some (looked w old.cells (but_length c.pairs) (decimal len)) ∙ mapped (value_of (but_length c.pairs) (decimal len)) ∙ ap is_some (looked_apart c.pairs (decimal len) (no_length len below)) ∙ none
            pick false false = ap is_some (looked w old.cells c.pairs (decimal len)) ∙ mapped (value_of c.pairs (decimal len)) ∙ none

    raised : max len (len + 1) ≡ len + 1
    raised = omega arith

    put_is : own_put (decimal len) u d ≡ with_own d (store.Array (len + 1)) (insert_entry bytes_eq d.pairs (decimal len) u)
    put_is =
        ap (own_stored (decimal len) u d) array_kind
        ∙ (λ j. if no_length len below j then own_resized d (own_length u) else own_placed (decimal len) u d len)
        ∙ (λ j. with_own d (store.Array (own_raised len (index_here len below j))) (insert_entry bytes_eq d.pairs (decimal len) u))
        ∙ (λ j. with_own d (store.Array (raised j)) (insert_entry bytes_eq d.pairs (decimal len) u))

    put_last : has_own (decimal len) c ≡ false → Changed w old new i 0 (own_put (decimal len) u) → image fs r w new ≡ with_cell st n (pushed (cell_at st n) len (seen w old.cells v ∷ []))
    put_last none change =
        let here : cell_at st n ≡ meant_cell fs r.nodes d = cell_there fs r w old i c there visible in
        after_change fs r w old new i 0 c (own_put (decimal len) u) there visible change
        ∙ (λ j. with_cell (same_counts fs r w old j) n (meant_cell fs r.nodes (put_is j)))
        ∙ ap (λ ps. with_cell st n (record { kind = state.Array (len + 1); prototype = (meant_cell fs r.nodes d).prototype; pairs = ps })) (insert_new d.pairs (decimal len) u (absent none))
        ∙ ap (λ (x : Cell). with_cell st n (pushed x len (seen w old.cells v ∷ []))) (sym here)

  pub pushed_at : len < 4294967295 → IsHeld w old.cells i → IsPutPaid old new i (decimal len) v → (visible_at w old.cells i ≡ true → Changed w old new i 0 (own_put (decimal len) (own_value w old.cells v)))
      → PushedAt n len (seen w old.cells (value.Ref i)) (seen w old.cells v) st (image fs r w new)
  pushed_at below held is sees h =
      let c = get_there old.cells i held.0 in
      let seen_here = mine h in
      put_last below c.0 c.1 (shows w old.cells i c.0 c.1 ∙ seen_here) (ap (λ b. array_length (kind_of st (meant (if b then store.Own n else store.Other i)))) (sym seen_here) ∙ h) (none_there (decimal len) v c.0 (sym (ap (λ (o : Option PlainCell). option_map_or (paid_refusal_of (decimal len) v) o None) c.1) ∙ is.allowed)) (sees seen_here)

-- what that keeps
pub push_kept : (fs : List Forest) (w : ℕ) (old new : Cells) → AreLawful old.cells → (x : List ℕ) (v : Value) (i : ℕ) → IsHeld w old.cells i → IsFine w old.cells v → IsPermitted x → IsPutPaid old new i x v → SeesPaid w old new i x v → ((v : ℕ) → Grows v old.cells new.cells) → ((u : ℕ) → is_of_at u old.cells i ≡ false → owned u new ≡ owned u old) → Kept fs w old new
push_kept fs w old new laws x v i held fine named is sees grows others = record {
  confined = λ h. confined_changed fs w old new i (stored x v) (ap (λ (t : Cells). t.cells) is.done) (grows w) h (λ d at. after d (h.each i d at));
  grows = grows w;
  others_grow = λ v apart. grows v;
  others_confined = λ gs u apart. confined_apart gs u old new i (stored x v) (ap (λ (t : Cells). t.cells) is.done) (grows u) (λ d at. ap (λ (e : PlainCell). is_of u e.owner) (stored_fine w old.cells x v fine named d).1 ∙ none_at u old.cells i (not_others w u old.cells laws i held apart) d at);
  others = λ u apart. others u (not_others w u old.cells laws i held apart);
  nodes = λ p. seen_nodes p (visible_at w old.cells i) refl;
  counts = seen_counts (visible_at w old.cells i) refl;
}
  where
    stays : visible_at w old.cells i ≡ false → owned w new ≡ owned w old
    stays e = others w (hosts_of w old.cells laws i held e w)

    seen_nodes : (p : ℕ → Bool) (b : Bool) → visible_at w old.cells i ≡ b → HoldNodes p w old → HoldNodes p w new
    seen_nodes p true e h = hold_changed p w old new i 0 (own_put x (own_value w old.cells v)) (pass_put p x (own_value w old.cells v)) (sees e) h
    seen_nodes p false e h = hold_same p w old new (ap (λ (o : Owned). o.heap) (stays e)) h

    seen_counts : (b : Bool) → visible_at w old.cells i ≡ b → CountsRise (owned w old).paid (owned w new).paid
    seen_counts true e = rise_to 0 0 0 (owned w old).paid (owned w new).paid (sees e).paid
    seen_counts false e = subst (CountsRise (owned w old).paid) (sym (ap (λ (o : Owned). o.paid) (stays e))) (rise_same (owned w old).paid)

    after : (d : PlainCell) → IsFineFor fs w old.cells d → IsFineFor fs w new.cells (stored x v d)
    after d h =
        let s = stored_fine w new.cells x v (fine_stays w old.cells new.cells (grows w) v fine) named d in
        subst (IsFineFor fs w new.cells) (sym s.1) (other_pairs fs w new.cells d s.0 s.2 s.3 (cell_stays w old.cells new.cells (grows w) fs d h))
