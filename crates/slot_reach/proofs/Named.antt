-- The references of a cell, found by its names.
use Rattle.std.proofs.Common.{◌≡◌, ℕ, suc, List, [], ◌∷◌, ◌++◌, map, length, filter, refl, sym, ap, ◌∙◌, append-nil, Bool, true, false, ◌&&◌, not, Option, Some, None, if◌then◌else◌, is_some, slice_get}
use Rattle.std.specs.Prelude.{IfSome, option_to_list}
use Rattle.std.specs.Cmp.{IsEquivalence}
use Rattle.std.specs.List.{IsDistinct, find, flat_map}
use Rattle.std.specs.Option.{option_and_then, option_map_or}
use Rattle.std.specs.Str.{bytes_eq}
use Rattle.std.proofs.lemmas.Map.Entries.{lookup_from_place}
use Rattle.std.proofs.lemmas.Slice.Eq.{bytes_eq-Decides}
use Rattle.code_units.specs.Permitted.{has_edge_underscore, is_banned, is_permitted}
use Rattle.store_cells.specs.declared.value.Value.{Value}
use Rattle.store_cells.specs.declared.value.Value.TheVariants as value
use Rattle.store_cells.specs.Arrays.{is_key, is_length_of, keys_of, length_in, length_name, nodes_name}
use Rattle.store_cells.specs.Bunches.{IsBunch}
use Rattle.store_cells.specs.Cells.{PlainCell, chain, first_own, has_own, is_array, is_bunch, value_of}
use Rattle.store_cells.specs.Lists.{links}
use Rattle.store_cells.proofs.Lists.{none_some}
use Rattle.object_store.specs.Calls.{HasLength, keys_at, readable}
use Rattle.reach_cert.specs.declared.cert.Ref.{Ref}
use Rattle.slot_reach.specs.Reads.{named_refs, open_refs, value_refs}
use Rattle.slot_reach.proofs.Steps.{Pair, kept_one}

-- ## Names

pub bytes_same : (a : List ℕ) → bytes_eq a a ≡ true
bytes_same a = (bytes_eq-Decides a a).1 refl

same_bytes : (a b : List ℕ) → bytes_eq a b ≡ true → a ≡ b
same_bytes a b e = (bytes_eq-Decides a b).0 e

bytes_flip : (a b : List ℕ) → bytes_eq a b ≡ bytes_eq b a
bytes_flip a b = by (bytes_eq a b) refl (bytes_eq b a) refl
  where
    by : (x : Bool) → bytes_eq a b ≡ x → (y : Bool) → bytes_eq b a ≡ y → x ≡ y
    by true e true g = refl
    by true e false g = sym (ap (λ z. bytes_eq b z) (same_bytes a b e) ∙ bytes_same b) ∙ g
    by false e true g = sym e ∙ ap (λ z. bytes_eq a z) (same_bytes b a g) ∙ bytes_same a
    by false e false g = refl

bytes_are : IsEquivalence bytes_eq
bytes_are = record {
  refl = bytes_same;
  symm = bytes_flip;
  congr = λ a b d e. ap (λ z. bytes_eq z d) (same_bytes a b e);
}

-- a name of a cell finds its own pair
own_found : (ps : List Pair) → IsDistinct bytes_eq (map (λ (p : Pair). p.0) ps) → (k : ℕ) (p : Pair) → slice_get ps k ≡ Some p → value_of ps p.0 ≡ Some p.1
own_found ps apart k p at = lookup_from_place bytes_are ps k p.0 p.1 apart at

first_at : (name : List ℕ) (cells : List PlainCell) (i : ℕ) (c : PlainCell) (v : Value) → slice_get cells i ≡ Some c → value_of c.pairs name ≡ Some v → first_own name (chain cells i) ≡ Some v
first_at name [] i c v at own = absurd (none_some at)
first_at name (d ∷ ds) i c v at own =
    let up : PlainCell → List PlainCell = λ x. links (λ e. e.up) (length ds) (d ∷ ds) x.up in
    ap (λ x. first_own name (option_map_or (λ (e : PlainCell). e ∷ up e) x [])) at
    ∙ ap (λ b. option_and_then (λ (e : PlainCell). value_of e.pairs name) (if b then Some c else find (has_own name) (up c))) (ap is_some own)
    ∙ own

-- a read of a cell that is no Bunch begins with its own
own_first : (name : List ℕ) (cells : List PlainCell) (i : ℕ) (c : PlainCell) (v : Value) → slice_get cells i ≡ Some c → is_bunch c.form ≡ false → value_of c.pairs name ≡ Some v → first_own name (readable cells i) ≡ Some v
own_first name cells i c v at plain own =
    ap (λ x. first_own name (option_map_or (chain cells) (option_and_then (λ (d : PlainCell). if is_bunch d.form then d.up else Some i) x) [])) at
    ∙ ap (λ b. first_own name (option_map_or (chain cells) (if b then c.up else Some i) [])) plain
    ∙ first_at name cells i c v at own

-- the hidden name of a Bunch
pub hidden_name : is_permitted nodes_name ≡ false
unfolding has_edge_underscore is_banned
hidden_name = refl

-- ## References

flat_kept : {X R : Type 0} (f : X → List R) (q : X → Bool) (x : X) (xs : List X) → flat_map f (filter q (x ∷ xs)) ≡ flat_map f (kept_one q x) ++ flat_map f (filter q xs)
flat_kept f q x xs = by (q x)
  where
    by : (b : Bool) → flat_map f (if b then x ∷ filter q xs else filter q xs) ≡ flat_map f (if b then x ∷ [] else []) ++ flat_map f (filter q xs)
    by true = ap (λ l. l ++ flat_map f (filter q xs)) (sym (append-nil (f x)))
    by false = refl

module _ (names : List (Option (List ℕ))) (cells : List PlainCell) where
  -- a length is no reference
  no_ref : (v : Value) → is_some (length_in v) ≡ true → value_refs names cells v ≡ []
  no_ref value.Undefined h = refl
  no_ref value.Null h = refl
  no_ref (value.Bool b) h = refl
  no_ref (value.Num n) h = refl
  no_ref (value.Text t) h = refl
  no_ref (value.Ref i) h = cc

  -- the references of a Bunch: none
  hidden_none : (ps : List Pair) (a : ℕ) → ps ≡ (nodes_name, value.Ref a) ∷ [] → flat_map (open_refs names cells) ps ≡ []
  hidden_none ps a is = ap (flat_map (open_refs names cells)) is ∙ ap (λ b. (if b then value_refs names cells (value.Ref a) else []) ++ []) hidden_name

  hidden_unlisted : (c : PlainCell) (a : ℕ) → c.pairs ≡ (nodes_name, value.Ref a) ∷ [] → keys_of c ≡ []
  hidden_unlisted c a is =
      ap (λ (ps : List Pair). filter (is_key c) (map (λ p. p.0) ps)) is
      ∙ ap (λ b. if b && not (is_length_of nodes_name c) then nodes_name ∷ [] else []) hidden_name

  -- one pair of a cell that is no Bunch, by its name and by its value
  module _ (i : ℕ) (c : PlainCell) (at : slice_get cells i ≡ Some c) (plain : is_bunch c.form ≡ false) (sized : is_array c.form ≡ true → HasLength c) where
    one_name : (p : Pair) → value_of c.pairs p.0 ≡ Some p.1 → flat_map (named_refs names cells i) (kept_one (is_key c) p.0) ≡ open_refs names cells p
    one_name p own = by (is_permitted p.0) (is_array c.form) refl (bytes_eq p.0 length_name) refl
      where
        listed : flat_map (named_refs names cells i) (p.0 ∷ []) ≡ value_refs names cells p.1
        listed =
            append-nil (named_refs names cells i p.0)
            ∙ ap (λ x. flat_map (value_refs names cells) (option_to_list x)) (own_first p.0 cells i c p.1 at plain own)
            ∙ append-nil (value_refs names cells p.1)

        is_length : is_array c.form ≡ true → bytes_eq p.0 length_name ≡ true → is_some (length_in p.1) ≡ true
        is_length array same =
            sym (ap (λ x. is_some (option_and_then length_in x)) (sym (ap (value_of c.pairs) (same_bytes p.0 length_name same)) ∙ own)) ∙ sized array

        by : (a b : Bool) → is_array c.form ≡ b → (d : Bool) → bytes_eq p.0 length_name ≡ d → flat_map (named_refs names cells i) (if a && not (b && d) then p.0 ∷ [] else []) ≡ (if a then value_refs names cells p.1 else [])
        by false b e d g = refl
        by true false e d g = listed
        by true true e false g = listed
        by true true e true g = sym (no_ref p.1 (is_length e g))

    all_names : (ps : List Pair) → ((k : ℕ) (p : Pair) → slice_get ps k ≡ Some p → value_of c.pairs p.0 ≡ Some p.1) → flat_map (named_refs names cells i) (filter (is_key c) (map (λ (p : Pair). p.0) ps)) ≡ flat_map (open_refs names cells) ps
    all_names [] own = refl
    all_names (p ∷ ps) own =
        flat_kept (named_refs names cells i) (is_key c) p.0 (map (λ (q : Pair). q.0) ps)
        ∙ (λ j. one_name p (own 0 p refl) j ++ all_names ps (λ k q e. own (suc k) q e) j)

  -- the listed names of a cell lead to what its pairs refer to
  keys_lead : (i : ℕ) (c : PlainCell) → slice_get cells i ≡ Some c → IsDistinct bytes_eq (map (λ (p : Pair). p.0) c.pairs) → (is_array c.form ≡ true → HasLength c) → (is_bunch c.form ≡ true → IsBunch cells c)
      → flat_map (named_refs names cells i) (keys_of c) ≡ flat_map (open_refs names cells) c.pairs
  keys_lead i c at apart sized hidden = by (is_bunch c.form) refl
    where
      by : (b : Bool) → is_bunch c.form ≡ b → flat_map (named_refs names cells i) (keys_of c) ≡ flat_map (open_refs names cells) c.pairs
      by true e =
          let bunch = hidden e in
          ap (flat_map (named_refs names cells i)) (hidden_unlisted c bunch.array bunch.pairs) ∙ sym (hidden_none c.pairs bunch.array bunch.pairs)
      by false e = all_names i c at e sized c.pairs (own_found c.pairs apart)

  pub keys_tell : (i : ℕ) (keys : List (List ℕ)) (old new : List Ref) → IfSome (slice_get cells i) (λ c. IsDistinct bytes_eq (map (λ (p : Pair). p.0) c.pairs))
      → ((k : ℕ) (c : PlainCell) → slice_get cells k ≡ Some c → is_array c.form ≡ true → HasLength c) → ((k : ℕ) (c : PlainCell) → slice_get cells k ≡ Some c → is_bunch c.form ≡ true → IsBunch cells c)
      → keys ≡ keys_at cells i → new ≡ old ++ flat_map (named_refs names cells i) keys → IfSome (slice_get cells i) (λ c. new ≡ old ++ flat_map (open_refs names cells) c.pairs)
  keys_tell i keys old new apart sized hidden are more = by (slice_get cells i) refl apart
    where
      by : (x : Option PlainCell) → slice_get cells i ≡ x → IfSome x (λ c. IsDistinct bytes_eq (map (λ (p : Pair). p.0) c.pairs)) → IfSome x (λ c. new ≡ old ++ flat_map (open_refs names cells) c.pairs)
      by None e d = tt
      by (Some c) e d =
          let these : keys ≡ keys_of c = are ∙ ap (λ x. option_map_or keys_of x []) e in
          more ∙ ap (λ l. old ++ flat_map (named_refs names cells i) l) these ∙ ap (λ l. old ++ l) (keys_lead i c e d (sized i c e) (hidden i c e))
