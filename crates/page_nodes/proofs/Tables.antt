-- A table of lists by ids, one of them written.
use Rattle.std.proofs.Common.{◌≡◌, ℕ, zero, suc, ◌<◌, ◌≤◌, List, [], ◌∷◌, ◌++◌, Bool, true, false, refl, ap, sym, ◌∙◌, eqb, not, cond, length, arith, eqb-true, ◌||◌, ◌&&◌, get_or, set, eq-eqb, ne_eqb, subst, Some, None, slice_get}
use Rattle.std.specs.Str.{bytes_eq}
use Rattle.std.specs.HashMap.{HashMap, get_by, IsEmpty}
use Rattle.std.specs.Map.{lookup}
use Rattle.std.specs.declared.vec.Vec.{Vec}
use Rattle.std.specs.declared.alloc.Global.{Global}
use Rattle.std.proofs.lemmas.Option.{slice_get-get_or}
use Rattle.std.proofs.lemmas.Slice.Eq.{bytes_eq-Decides}
use Rattle.page_nodes.specs.Entries.{listed}
use Rattle.page_nodes.specs.Ids.{rises, is_under, numbers_of, numbers_at, room_under, room_at_id, numbers_in}
use Rattle.page_nodes.proofs.Lists.{cases}

or_false : (b : Bool) → b ≡ (b || false)
or_false true = refl
or_false false = refl

and_true : (b : Bool) → b ≡ (b && true)
and_true true = refl
and_true false = refl

suc_same : (a b : ℕ) → eqb (suc a) (suc b) ≡ eqb a b
suc_same a b = cases (λ c. eqb (suc a) (suc b) ≡ c) (eqb a b) (λ e. eq-eqb (suc a) (suc b) (ap suc (eqb-true a b e))) (λ e. ne_eqb (suc a) (suc b) (λ h. different a b e (omega (arith, h))))
  where
    different : (x y : ℕ) → eqb x y ≡ false → x ≡ y → ⊥
    different x y e s = true_false (sym (eq-eqb x y s) ∙ e)
      where
        true_false : true ≡ false → ⊥
        true_false h = cc

-- one item written
get_set : {A : Type 0} (xs : List A) (s t : ℕ) (m : A) → s < length xs → slice_get (set xs s m) t ≡ cond (eqb s t) (Some m) (slice_get xs t)
get_set [] s t m lt = absurd (omega (arith, lt))
get_set (x ∷ xs) zero zero m lt = refl
get_set (x ∷ xs) zero (suc t) m lt = sym (ap (λ b. cond b (Some m) (slice_get xs t)) (ne_eqb zero (suc t) (λ e. omega arith)))
get_set (x ∷ xs) (suc s) zero m lt = sym (ap (λ b. cond b (Some m) (Some x)) (ne_eqb (suc s) zero (λ e. omega arith)))
get_set (x ∷ xs) (suc s) (suc t) m lt = get_set xs s t m (omega (arith, lt)) ∙ sym (ap (λ b. cond b (Some m) (slice_get xs t)) (suc_same s t))

here : {A : Type 0} (xs : List A) (s : ℕ) (old : A) → s < length xs → old ≡ get_or xs s old → slice_get xs s ≡ Some old
here xs s old lt e = slice_get-get_or xs s old lt ∙ ap Some (sym e)

same_text : (a b : List ℕ) → bytes_eq a b ≡ true → a ≡ b
same_text a b h = (bytes_eq-Decides a b).0 h

pub no_numbers : (xs : List ℕ) → eqb (length xs) 0 ≡ true → xs ≡ []
no_numbers [] h = refl
no_numbers (x ∷ xs) h = absurd (omega (arith, eqb-true (suc (length xs)) 0 h))

module _ {S : Type 0} where
  -- what holds of all lists
  pub rising_here : (xs : List (HashMap (List ℕ) (Vec ℕ Global) S)) (s : ℕ) (old : HashMap (List ℕ) (Vec ℕ Global) S) → s < length xs → old ≡ get_or xs s old → ((t : ℕ) (v : List ℕ) → rises 0 (numbers_at (slice_get xs t) v) ≡ true) → (v : List ℕ) → rises 0 (numbers_of old v) ≡ true
  rising_here xs s old lt e h v = ap (λ o. rises 0 (numbers_at o v)) (sym (here xs s old lt e)) ∙ h s v

  pub room_here : (xs : List (HashMap (List ℕ) (Vec ℕ Global) S)) (s : ℕ) (old : HashMap (List ℕ) (Vec ℕ Global) S) (id : List ℕ) → s < length xs → old ≡ get_or xs s old → 1 ≤ room_at_id (slice_get xs s) id → 1 ≤ room_under old id
  room_here xs s old id lt e h = subst (λ o. 1 ≤ room_at_id o id) (here xs s old lt e) h

  -- the same numbers
  pub same_written : (xs : List (HashMap (List ℕ) (Vec ℕ Global) S)) (s : ℕ) (old m : HashMap (List ℕ) (Vec ℕ Global) S) → s < length xs → old ≡ get_or xs s old → ((v : List ℕ) → numbers_of m v ≡ numbers_of old v) → (t : ℕ) (v : List ℕ) → numbers_at (slice_get (set xs s m) t) v ≡ numbers_at (slice_get xs t) v
  same_written xs s old m lt e h t v =
      ap (λ o. numbers_at o v) (get_set xs s t m lt)
      ∙ cases (λ b. numbers_at (cond b (Some m) (slice_get xs t)) v ≡ numbers_at (slice_get xs t) v) (eqb s t)
      (λ q. h v ∙ ap (λ o. numbers_at o v) (sym (here xs s old lt e) ∙ ap (slice_get xs) (eqb-true s t q)))
      (λ _. refl)

  pub room_written : (xs : List (HashMap (List ℕ) (Vec ℕ Global) S)) (s : ℕ) (m : HashMap (List ℕ) (Vec ℕ Global) S) (id : List ℕ) → s < length xs → 1 ≤ room_under m id → 1 ≤ room_at_id (slice_get (set xs s m) s) id
  room_written xs s m id lt h = subst (λ o. 1 ≤ room_at_id o id) (sym (get_set xs s s m lt ∙ ap (λ b. cond b (Some m) (slice_get xs s)) (eq-eqb s s refl))) h

  pub room_kept : (xs : List (HashMap (List ℕ) (Vec ℕ Global) S)) (s : ℕ) (old m : HashMap (List ℕ) (Vec ℕ Global) S) → s < length xs → old ≡ get_or xs s old → ((v : List ℕ) → room_under old v ≤ room_under m v) → (t : ℕ) (v : List ℕ) → room_at_id (slice_get xs t) v ≤ room_at_id (slice_get (set xs s m) t) v
  room_kept xs s old m lt e h t v = subst (λ o. room_at_id (slice_get xs t) v ≤ room_at_id o v) (sym (get_set xs s t m lt))
      (cases (λ b. room_at_id (slice_get xs t) v ≤ room_at_id (cond b (Some m) (slice_get xs t)) v) (eqb s t)
      (λ q. subst (λ o. room_at_id o v ≤ room_under m v) (sym (here xs s old lt e) ∙ ap (slice_get xs) (eqb-true s t q)) (h v))
      (λ _. omega arith))

  pub rising_written : (xs : List (HashMap (List ℕ) (Vec ℕ Global) S)) (s : ℕ) (m : HashMap (List ℕ) (Vec ℕ Global) S) → s < length xs → ((t : ℕ) (v : List ℕ) → rises 0 (numbers_at (slice_get xs t) v) ≡ true) → ((v : List ℕ) → rises 0 (numbers_of m v) ≡ true) → (t : ℕ) (v : List ℕ) → rises 0 (numbers_at (slice_get (set xs s m) t) v) ≡ true
  rising_written xs s m lt h g t v = ap (λ o. rises 0 (numbers_at o v)) (get_set xs s t m lt) ∙ cases (λ b. rises 0 (numbers_at (cond b (Some m) (slice_get xs t)) v) ≡ true) (eqb s t) (λ _. g v) (λ _. h t v)

  -- a number more, or a number less
  pub more_written : (xs : List (HashMap (List ℕ) (Vec ℕ Global) S)) (s n : ℕ) (id : List ℕ) (old m : HashMap (List ℕ) (Vec ℕ Global) S) → s < length xs → old ≡ get_or xs s old → ((v : List ℕ) (x : ℕ) → listed x (numbers_of m v) ≡ (listed x (numbers_of old v) || (bytes_eq id v && eqb n x))) → (t : ℕ) (v : List ℕ) (x : ℕ) → listed x (numbers_at (slice_get (set xs s m) t) v) ≡ (listed x (numbers_at (slice_get xs t) v) || (is_under s (Some id) t v && eqb n x))
  more_written xs s n id old m lt e h t v x =
      ap (λ o. listed x (numbers_at o v)) (get_set xs s t m lt)
      ∙ cases (λ b. listed x (numbers_at (cond b (Some m) (slice_get xs t)) v) ≡ (listed x (numbers_at (slice_get xs t) v) || ((b && bytes_eq id v) && eqb n x))) (eqb s t)
      (λ q. h v x ∙ ap (λ o. listed x (numbers_at o v) || (bytes_eq id v && eqb n x)) (sym (here xs s old lt e) ∙ ap (slice_get xs) (eqb-true s t q)))
      (λ _. or_false (listed x (numbers_at (slice_get xs t) v)))

  pub less_written : (xs : List (HashMap (List ℕ) (Vec ℕ Global) S)) (s n : ℕ) (id : List ℕ) (old m : HashMap (List ℕ) (Vec ℕ Global) S) → s < length xs → old ≡ get_or xs s old → ((v : List ℕ) (x : ℕ) → listed x (numbers_of m v) ≡ (listed x (numbers_of old v) && not (bytes_eq id v && eqb n x))) → (t : ℕ) (v : List ℕ) (x : ℕ) → listed x (numbers_at (slice_get (set xs s m) t) v) ≡ (listed x (numbers_at (slice_get xs t) v) && not (is_under s (Some id) t v && eqb n x))
  less_written xs s n id old m lt e h t v x =
      ap (λ o. listed x (numbers_at o v)) (get_set xs s t m lt)
      ∙ cases (λ b. listed x (numbers_at (cond b (Some m) (slice_get xs t)) v) ≡ (listed x (numbers_at (slice_get xs t) v) && not ((b && bytes_eq id v) && eqb n x))) (eqb s t)
      (λ q. h v x ∙ ap (λ o. listed x (numbers_at o v) && not (bytes_eq id v && eqb n x)) (sym (here xs s old lt e) ∙ ap (slice_get xs) (eqb-true s t q)))
      (λ _. and_true (listed x (numbers_at (slice_get xs t) v)))

  -- an empty list more at the end
  pub none_pushed : (xs : List (HashMap (List ℕ) (Vec ℕ Global) S)) (m : HashMap (List ℕ) (Vec ℕ Global) S) → IsEmpty m → ((s : ℕ) (v : List ℕ) → numbers_at (slice_get xs s) v ≡ []) → (s : ℕ) (v : List ℕ) → numbers_at (slice_get (xs ++ m ∷ []) s) v ≡ []
  none_pushed [] m e h zero v = ap (λ es. numbers_in (lookup (bytes_eq v) es)) e
  none_pushed [] m e h (suc s) v = refl
  none_pushed (x ∷ xs) m e h zero v = h 0 v
  none_pushed (x ∷ xs) m e h (suc s) v = none_pushed xs m e (λ t w. h (suc t) w) s v

  -- a list without numbers goes
  pub empty_dropped : (old m : HashMap (List ℕ) (Vec ℕ Global) S) (id : List ℕ) → numbers_of old id ≡ [] → ((q : List ℕ) → get_by (bytes_eq q) m ≡ cond (bytes_eq id q) None (get_by (bytes_eq q) old)) → (v : List ℕ) → numbers_of m v ≡ numbers_of old v
  empty_dropped old m id none h v =
      ap numbers_in (h v)
      ∙ cases (λ b. bytes_eq id v ≡ b → numbers_in (cond b None (get_by (bytes_eq v) old)) ≡ numbers_of old v) (bytes_eq id v)
      (λ _ e. sym none ∙ ap (numbers_of old) (same_text id v e))
      (λ _ _. refl) refl
