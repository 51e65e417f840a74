-- The names that `keys` lists, as the widget sees them.
use Rattle.std.proofs.Common.{◌≡◌, ℕ, List, [], ◌∷◌, refl, sym, ap, ◌∙◌, Option, Some, None, Bool, true, false, cond, if◌then◌else◌, slice_get, filter, map, not}
use Rattle.std.specs.Prelude.{◌&&◌}
use Rattle.std.specs.Option.{option_map_or}
use Rattle.std.specs.Str.{bytes_eq}
use Rattle.code_units.specs.Permitted.{has_edge_underscore, is_banned, is_permitted}
use Rattle.js_tree.specs.Forest.{Forest}
use Rattle.permitted_table.specs.Table.{names_of}
use Rattle.store_cells.specs.declared.value.Value.{Value}
use Rattle.store_cells.specs.declared.value.Value.TheVariants as value
use Rattle.store_cells.specs.declared.value.Number.TheVariants as number
use Rattle.store_cells.specs.declared.kind.Form.{Form}
use Rattle.store_cells.specs.declared.kind.Form.TheVariants as form
use Rattle.store_cells.specs.Arrays.{keys_of, length_name, nodes_name}
use Rattle.store_cells.specs.Bunches.{IsBunch}
use Rattle.store_cells.specs.Cells.{Cells, PlainCell, is_array, is_bunch, is_visible_form, own_count}
use Rattle.store_cells.specs.Host.{is_frozen_form, place_of}
use Rattle.object_store.specs.Calls.{keys_at}
use Rattle.object_store.specs.Owned as store
use Rattle.object_store.specs.Owned.{but_length, own_pairs, visible_at}
use Rattle.widget_meaning.specs.Values as meaning
use Rattle.widget_meaning.specs.OwnState.{Cell}
use Rattle.widget_meaning.specs.Properties.{keys, permitted_names}
use Rattle.js_image.specs.Image.{Rest, entry_at, image, meant, meant_pairs, seen}
use Rattle.js_image.specs.Held.{IsHeld}
use Rattle.js_image.specs.Laws.{AreLawful}
use Rattle.js_image.specs.Reads.{cell_in}
use Rattle.js_image.proofs.Chains.{leads_form, visible_form}
use Rattle.js_image.proofs.Hosts.{get_there, host_is, host_link, leads_at}
use Rattle.js_image.proofs.Puts.{cell_there, permitted_else, shows}

false_true : false ≡ true → ⊥
false_true h = cc

none_some : {A : Type 0} {a : A} → None ≡ Some a → ⊥
none_some h = cc

and_true : (b : Bool) → (b && true) ≡ b
and_true true = refl
and_true false = refl

and_false : (b : Bool) → (b && false) ≡ false
and_false true = refl
and_false false = refl

-- names are the same whatever the values become
same_names : {A B : Type 0} (f : A → B) (ps : List (List ℕ × A)) → map (λ (p : List ℕ × B). p.0) (map (λ (p : List ℕ × A). (p.0, f p.1)) ps) ≡ map (λ (p : List ℕ × A). p.0) ps
same_names f [] = refl
same_names f (p ∷ ps) = ap (λ l. p.0 ∷ l) (same_names f ps)

seen_names : (w : ℕ) (cells : List PlainCell) (ps : List (List ℕ × Value)) → map (λ p. p.0) (meant_pairs (own_pairs w cells ps)) ≡ map (λ p. p.0) ps
seen_names w cells ps = same_names meant (own_pairs w cells ps) ∙ same_names (store.own_value w cells) ps

-- names of a cell that is no Array
plain_keys : (xs : List (List ℕ)) → filter (λ name. is_permitted name && true) xs ≡ filter is_permitted xs
plain_keys [] = refl
plain_keys (x ∷ xs) = λ j. cond (and_true (is_permitted x) j) (x ∷ plain_keys xs j) (plain_keys xs j)

-- names of an Array
abbrev listed_names : List (List ℕ × Value) → List (List ℕ)
listed_names ps = filter (λ name. is_permitted name && not (bytes_eq name length_name)) (map (λ p. p.0) ps)

array_keys : (ps : List (List ℕ × Value)) → filter (λ name. is_permitted name && not (bytes_eq name length_name)) (map (λ p. p.0) ps) ≡ filter is_permitted (map (λ p. p.0) (but_length ps))
array_keys [] = refl
array_keys (p ∷ ps) = by (not (bytes_eq p.0 length_name)) (array_keys ps)
  where
    by : (b : Bool) → listed_names ps ≡ filter is_permitted (map (λ p. p.0) (but_length ps)) → cond (is_permitted p.0 && b) (p.0 ∷ listed_names ps) (listed_names ps) ≡ filter is_permitted (map (λ p. p.0) (cond b (p ∷ but_length ps) (but_length ps)))
    by true g = λ j. cond (and_true (is_permitted p.0) j) (p.0 ∷ g j) (g j)
    by false g = (λ j. cond (and_false (is_permitted p.0) j) (p.0 ∷ listed_names ps) (listed_names ps)) ∙ g

-- the hidden name of a Bunch
hidden_name : is_permitted nodes_name ≡ false
unfolding has_edge_underscore is_banned
hidden_name = refl

module _ (w : ℕ) (cells : List PlainCell) (c : PlainCell) where
  abbrev shown_names : Form → List (List ℕ)
  shown_names f = permitted_names (meant_pairs (own_pairs w cells (if is_bunch f then [] else (if is_array f then but_length c.pairs else c.pairs))))

  abbrev listed : Form → List (List ℕ)
  listed f = filter (λ name. is_permitted name && not (is_array f && bytes_eq name length_name)) (map (λ p. p.0) c.pairs)

  plain_listed : filter (λ name. is_permitted name && true) (map (λ (p : List ℕ × Value). p.0) c.pairs) ≡ permitted_names (meant_pairs (own_pairs w cells c.pairs))
  plain_listed = plain_keys (map (λ p. p.0) c.pairs) ∙ ap (filter is_permitted) (sym (seen_names w cells c.pairs))

  by_form : (f : Form) → (is_bunch f ≡ true → IsBunch cells c) → is_visible_form f ≡ true → listed f ≡ shown_names f
  by_form form.Object b v = plain_listed
  by_form form.Array b v = array_keys c.pairs ∙ ap (filter is_permitted) (sym (seen_names w cells (but_length c.pairs)))
  by_form (form.Function p) b v = plain_listed
  by_form form.Bunch b v =
      ap (λ (ps : List (List ℕ × Value)). filter (λ name. is_permitted name && true) (map (λ p. p.0) ps)) (b refl).pairs
      ∙ (λ j. cond (hidden_name j && true) (nodes_name ∷ []) [])
  by_form (form.Native m) b v = absurd (false_true v)
  by_form form.Scope b v = absurd (false_true v)
  by_form (form.RawNode m) b v = absurd (false_true v)
  by_form form.Global b v = absurd (false_true v)

frozen_plain : (f : Form) → is_frozen_form f ≡ true → is_array f ≡ false
frozen_plain form.Object h = refl
frozen_plain (form.Native n) h = refl
frozen_plain form.Array h = absurd (false_true h)
frozen_plain (form.Function p) h = absurd (false_true h)
frozen_plain form.Bunch h = absurd (false_true h)
frozen_plain form.Scope h = absurd (false_true h)
frozen_plain (form.RawNode n) h = absurd (false_true h)
frozen_plain form.Global h = absurd (false_true h)

-- the names of a cell that the widget holds
pub keys_are : (fs : List Forest) (r : Rest) (w : ℕ) (s : Cells) → AreLawful s.cells → ((i : ℕ) (c : PlainCell) → slice_get s.cells i ≡ Some c → is_bunch c.form ≡ true → IsBunch s.cells c) → (i : ℕ) → IsHeld w s.cells i → keys_at s.cells i ≡ keys (image fs r w s) (seen w s.cells (value.Ref i))
keys_are fs r w s laws bunches i held = by (get_there s.cells i held.0) (visible_at w s.cells i) refl
  where
    by : (there : (c : PlainCell) × (slice_get s.cells i ≡ Some c)) (b : Bool) → visible_at w s.cells i ≡ b → keys_at s.cells i ≡ keys (image fs r w s) (seen w s.cells (value.Ref i))
    by there true e =
        let c = there.0 in
        let mine = shows w s.cells i c there.1 ∙ e in
        ap (λ (o : Option PlainCell). option_map_or keys_of o []) there.1
        ∙ by_form w s.cells c c.form (bunches i c there.1) (visible_form w c mine)
        ∙ sym (ap (λ b. keys (image fs r w s) (meant (if b then store.Own (own_count w s.cells i) else store.Other i))) e ∙ ap (λ (d : Cell). permitted_names d.pairs) (cell_there fs r w s i c there.1 mine))
    by there false e =
        let c = there.0 in
        let p = permitted_else w s.cells i held e in
        let none = frozen_plain c.form (leads_form c (leads_at w s.cells laws i c there.1 p)) in
        let names : map (λ (q : List ℕ × Value). q.0) c.pairs ≡ map (λ q. q.0) (names_of (entry_at i)) =
        ap (λ (d : PlainCell). map (λ (q : List ℕ × Value). q.0) d.pairs) (host_is w s.cells laws i c p there.1) ∙ same_names (λ h. value.Ref (place_of h)) (names_of (entry_at i)) in
        ap (λ (o : Option PlainCell). option_map_or keys_of o []) there.1
        ∙ (λ j. filter (λ name. is_permitted name && not (none j && bytes_eq name length_name)) (map (λ q. q.0) c.pairs))
        ∙ plain_keys (map (λ q. q.0) c.pairs)
        ∙ ap (filter is_permitted) (names ∙ sym (same_names meaning.Host (names_of (entry_at i))))
        ∙ sym (ap (keys (image fs r w s)) (host_link w s.cells laws i p))

-- a primitive has no names
pub keys_primitive : (fs : List Forest) (r : Rest) (w : ℕ) (s : Cells) (b : Value) → cell_in b ≡ None → keys (image fs r w s) (seen w s.cells b) ≡ []
keys_primitive fs r w s value.Undefined h = refl
keys_primitive fs r w s value.Null h = refl
keys_primitive fs r w s (value.Bool b) h = refl
keys_primitive fs r w s (value.Num number.NaN) h = refl
keys_primitive fs r w s (value.Num (number.Whole z)) h = refl
keys_primitive fs r w s (value.Text t) h = refl
keys_primitive fs r w s (value.Ref i) h = absurd (none_some (sym h))
