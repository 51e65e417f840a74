-- Pairs by the places of their numbers.
use Rattle.std.proofs.Common.{◌≡◌, ℕ, zero, suc, ◌+◌, ◌<◌, List, [], ◌∷◌, ◌++◌, length, map, get_or, set, take, drop, remove, refl, sym, ap, ◌∙◌, subst, Some, None, arith, Bool, true, false, eqb, cond, not, nat_lt, if◌then◌else◌, slice_get, position}
use Rattle.std.specs.Cmp.{nat_eq_equiv}
use Rattle.std.specs.List.{IsDistinct, list_any, position_or_len, swap_remove}
use Rattle.std.specs.Map.{keys_of, lookup, remove_entry}
use Rattle.std.specs.Prelude.{Result, Ok, Err, OnErr}
use Rattle.std.proofs.lemmas.Bool.Decides.{nat_tests}
use Rattle.std.proofs.lemmas.List.{map-append}
use Rattle.std.proofs.lemmas.Map.Entries.{length-keys_of}
use Rattle.std.proofs.lemmas.Map.Keys.{IsDistinct-push}
use Rattle.std.proofs.lemmas.Option.{slice_get-get_or}
use Rattle.indexmap.specs.IndexMap.{insert_entry}
use Rattle.indexmap.proofs.MapLemmas.{Found-position, Missing-position, absent_before, index-first}
use Rattle.indexmap.proofs.RemoveLemmas.{own_first, shift_out, swap_out}

module _ {X : Type 0} where
  -- a search among the pairs is one among the numbers
  place_or_len : (test : ℕ → Bool) (es : List (ℕ × X)) → position_or_len (λ e. test e.0) es ≡ position_or_len test (keys_of es)
  place_or_len test [] = refl
  place_or_len test (e ∷ es) = ap (λ k. cond (not (test e.0)) (1 + k) 0) (place_or_len test es)

  pub place_by_keys : (test : ℕ → Bool) (es : List (ℕ × X)) → position (λ e. test e.0) es ≡ position test (keys_of es)
  place_by_keys test es = (λ j. cond (nat_lt (place_or_len test es j) (sym (length-keys_of es) j)) (Some (place_or_len test es j)) None)

  module _ (n : ℕ) where
    -- the pair with the number stands at a place, and no earlier one has it
    abbrev IsFirst : List (ℕ × X) → ℕ → Type 0
    IsFirst [] i = ⊥
    IsFirst (e ∷ es) zero = eqb n e.0 ≡ true
    IsFirst (e ∷ es) (suc i) = (eqb n e.0 ≡ false) × IsFirst es i

    first_from : (es : List (ℕ × X)) (i : ℕ) → position_or_len (eqb n) (keys_of es) ≡ i → i < length es → IsFirst es i
    first_from [] i h lt = absurd (omega (arith, lt))
    first_from (e ∷ es) i h lt = by (eqb n e.0) refl i h lt (first_from es)
      where
        by : (b : Bool) → eqb n e.0 ≡ b → (k : ℕ) → cond (not b) (1 + position_or_len (eqb n) (keys_of es)) 0 ≡ k → k < suc (length es)
            → ((m : ℕ) → position_or_len (eqb n) (keys_of es) ≡ m → m < length es → IsFirst es m) → IsFirst (e ∷ es) k
        by true g zero h lt rest = g
        by true g (suc k) h lt rest = absurd (omega (arith, h))
        by false g zero h lt rest = absurd (omega (arith, h))
        by false g (suc k) h lt rest = (g, rest k (omega (arith, h)) (omega (arith, lt)))

    value_first : (es : List (ℕ × X)) (i : ℕ) (d : ℕ × X) → IsFirst es i → Some (get_or es i d).1 ≡ lookup (eqb n) es
    value_first [] i d h = absurd h
    value_first (e ∷ es) zero d h = sym (ap (λ b. cond b (Some e.1) (lookup (eqb n) es)) h)
    value_first (e ∷ es) (suc i) d h = value_first es i d h.1 ∙ sym (ap (λ b. cond b (Some e.1) (lookup (eqb n) es)) h.0)

    insert_first : (v : X) (es : List (ℕ × X)) (i : ℕ) (d : ℕ × X) → IsFirst es i → set es i ((get_or es i d).0, v) ≡ insert_entry eqb es n v
    insert_first v [] i d h = absurd h
    insert_first v (e ∷ es) zero d h = sym (ap (λ b. if b then (e.0, v) ∷ es else e ∷ insert_entry eqb es n v) h)
    insert_first v (e ∷ es) (suc i) d h = ap (λ l. e ∷ l) (insert_first v es i d h.1) ∙ sym (ap (λ b. if b then (e.0, v) ∷ es else e ∷ insert_entry eqb es n v) h.0)

    remove_first : (es : List (ℕ × X)) (i : ℕ) → IsFirst es i → remove es i ≡ remove_entry (eqb n) es
    remove_first [] i h = absurd h
    remove_first (e ∷ es) zero h = sym (ap (λ b. cond b es (e ∷ remove_entry (eqb n) es)) h)
    remove_first (e ∷ es) (suc i) h = ap (λ l. e ∷ l) (remove_first es i h.1) ∙ sym (ap (λ b. cond b es (e ∷ remove_entry (eqb n) es)) h.0)

    remove_none : (es : List (ℕ × X)) → lookup (eqb n) es ≡ None → es ≡ remove_entry (eqb n) es
    remove_none [] h = refl
    remove_none (e ∷ es) h = by (eqb n e.0) h (remove_none es)
      where
        by : (b : Bool) → cond b (Some e.1) (lookup (eqb n) es) ≡ None → (lookup (eqb n) es ≡ None → es ≡ remove_entry (eqb n) es) → e ∷ es ≡ cond b es (e ∷ remove_entry (eqb n) es)
        by true h rest = absurd (grind (arith, h))
        by false h rest = ap (λ l. e ∷ l) (rest h)

    any_none : (es : List (ℕ × X)) → lookup (eqb n) es ≡ None → list_any (eqb n) (keys_of es) ≡ false
    any_none [] h = refl
    any_none (e ∷ es) h = by (eqb n e.0) refl h (any_none es)
      where
        by : (b : Bool) → eqb n e.0 ≡ b → cond b (Some e.1) (lookup (eqb n) es) ≡ None → (lookup (eqb n) es ≡ None → list_any (eqb n) (keys_of es) ≡ false) → list_any (eqb n) (keys_of (e ∷ es)) ≡ false
        by true g h rest = absurd (grind (arith, h))
        by false g h rest = search (g, rest h)

    -- a number at its place
    pub is_first : (es : List (ℕ × X)) (i : ℕ) → position (eqb n) (keys_of es) ≡ Some i → IsFirst es i
    is_first es i p = let f = Found-position (eqb n) es i p in first_from es i f.or_len f.within

    pub found_within : (es : List (ℕ × X)) (i : ℕ) → position (eqb n) (keys_of es) ≡ Some i → i < length es
    found_within es i p = (Found-position (eqb n) es i p).within

    pub found_value : (es : List (ℕ × X)) (i : ℕ) (d : ℕ × X) → position (eqb n) (keys_of es) ≡ Some i → Some (get_or es i d).1 ≡ lookup (eqb n) es
    found_value es i d p = value_first es i d (is_first es i p)

    pub found_insert : (v : X) (es : List (ℕ × X)) (i : ℕ) (d : ℕ × X) → position (eqb n) (keys_of es) ≡ Some i → set es i ((get_or es i d).0, v) ≡ insert_entry eqb es n v
    found_insert v es i d p = insert_first v es i d (is_first es i p)

    pub found_remove : (es : List (ℕ × X)) (i : ℕ) → position (eqb n) (keys_of es) ≡ Some i → remove es i ≡ remove_entry (eqb n) es
    found_remove es i p = remove_first es i (is_first es i p)

    -- a number that is not there
    pub missing_value : (es : List (ℕ × X)) → position (eqb n) (keys_of es) ≡ None → lookup (eqb n) es ≡ None
    missing_value es p = (Missing-position (eqb n) es p).value

    pub missing_remove : (es : List (ℕ × X)) → position (eqb n) (keys_of es) ≡ None → es ≡ remove_entry (eqb n) es
    missing_remove es p = remove_none es (missing_value es p)

    pub insert_last : (v : X) (es : List (ℕ × X)) → lookup (eqb n) es ≡ None → es ++ (n, v) ∷ [] ≡ insert_entry eqb es n v
    insert_last v [] h = refl
    insert_last v (e ∷ es) h = by (eqb n e.0) h (insert_last v es)
      where
        by : (b : Bool) → cond b (Some e.1) (lookup (eqb n) es) ≡ None → (lookup (eqb n) es ≡ None → es ++ (n, v) ∷ [] ≡ insert_entry eqb es n v) → e ∷ (es ++ (n, v) ∷ []) ≡ (if b then (e.0, v) ∷ es else e ∷ insert_entry eqb es n v)
        by true h rest = absurd (grind (arith, h))
        by false h rest = ap (λ l. e ∷ l) (rest h)

    -- the numbers still differ
    pub distinct_push : (v : X) (es : List (ℕ × X)) → IsDistinct eqb (keys_of es) → lookup (eqb n) es ≡ None → IsDistinct eqb (keys_of (es ++ (n, v) ∷ []))
    distinct_push v es d h = subst (IsDistinct eqb) (sym (map-append (λ (e : ℕ × X). e.0) es ((n, v) ∷ []))) (IsDistinct-push nat_eq_equiv (keys_of es) n d (any_none es h))

    pub distinct_remove : (es : List (ℕ × X)) (i : ℕ) (d : ℕ × X) → IsDistinct eqb (keys_of es) → position (eqb n) (keys_of es) ≡ Some i → IsDistinct eqb (keys_of (remove es i))
    distinct_remove es i d h p = (shift_out eqb nat_eq_equiv (eqb n) (nat_eq_equiv.congr n) es i (get_or es i d) p (slice_get-get_or es i d (found_within es i p)) h (remove es i) refl).unique

  pub distinct_swap : (es : List (ℕ × X)) (i : ℕ) (p : ℕ × X) → IsDistinct eqb (keys_of es) → slice_get es i ≡ Some p → IsDistinct eqb (keys_of (swap_remove es i p))
  distinct_swap es i p h at =
      let first = index-first (eqb p.0) es i (own_first eqb nat_eq_equiv es i p.0 p.1 h at) in
      (swap_out eqb nat_eq_equiv (eqb p.0) (nat_eq_equiv.congr p.0) es i p first at h (swap_remove es i p) refl).unique

  -- a value is written in its place
  pub keys_set : (v : X) (es : List (ℕ × X)) (i : ℕ) (d : ℕ × X) → i < length es → keys_of (set es i ((get_or es i d).0, v)) ≡ keys_of es
  keys_set v [] i d lt = absurd (omega (arith, lt))
  keys_set v (e ∷ es) zero d lt = refl
  keys_set v (e ∷ es) (suc i) d lt = ap (λ l. e.0 ∷ l) (keys_set v es i d (omega (arith, lt)))

-- numbers that pass the test are the same
pub same_number : (k n : ℕ) → eqb k n ≡ true → k ≡ n
same_number k n e = grind (arith, nat_tests, e)

-- what holds is so after a failure
pub on_err : {A B P : Type 0} (r : Result A B) → P → OnErr r P
on_err (Ok a) p = tt
on_err (Err e) p = p

-- the numbers of no pairs differ
distinct_none : IsDistinct eqb []
unfolding IsDistinct
distinct_none = tt

pub none_differ : {X : Type 0} (es : List (ℕ × X)) → es ≡ [] → IsDistinct eqb (keys_of es)
none_differ {X} es e = subst (λ (l : List (ℕ × X)). IsDistinct eqb (keys_of l)) (sym e) distinct_none

-- the pairs before one of which the numbers differ lack its number
split_at : {A : Type 0} (xs : List A) (k : ℕ) (d : A) → k < length xs → xs ≡ take k xs ++ get_or xs k d ∷ drop (suc k) xs
split_at [] k d lt = absurd (omega (arith, lt))
split_at (x ∷ xs) zero d lt = refl
split_at (x ∷ xs) (suc k) d lt = ap (λ l. x ∷ l) (split_at xs k d (omega (arith, lt)))

same_map : {A : Type 0} (xs : List A) → map (λ x. x) xs ≡ xs
same_map [] = refl
same_map (x ∷ xs) = ap (λ l. x ∷ l) (same_map xs)

pub new_number : {X : Type 0} (all so_far : List (ℕ × X)) (x : ℕ × X) → IsDistinct eqb (keys_of all) → map (λ y. y) so_far ≡ take (length so_far) all → (length so_far < length all) × (x ≡ get_or all (length so_far) x) → lookup (eqb x.0) so_far ≡ None
new_number {X} all so_far x h first turn =
    let k = length so_far in
    let parts : all ≡ so_far ++ x ∷ drop (suc k) all = split_at all k x turn.0 ∙ (λ j. sym (sym (same_map so_far) ∙ first) j ++ sym turn.1 j ∷ drop (suc k) all) in
    absent_before nat_eq_equiv so_far (drop (suc k) all) x (subst (λ (l : List (ℕ × X)). IsDistinct eqb (keys_of l)) parts h)
