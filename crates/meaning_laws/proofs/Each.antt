-- A predicate on each element of a list.
use Rattle.std.proofs.Common.{◌≡◌, ℕ, zero, suc, ◌<◌, ◌≤◌, ◌+◌, List, [], ◌∷◌, ◌++◌, length, Bool, true, false, refl, arith, map, take, drop}
use Rattle.std.specs.Prelude.{slice_index_or, slice_set, if◌then◌else◌, replicate}
use Rattle.std.specs.List.{AllByRecursion, filter, flat_map, range_with_len, zip}

pub every : {A : Type 0} (P Q : A → Type 0) → ((x : A) → P x → Q x) → (xs : List A) → AllByRecursion P xs → AllByRecursion Q xs
every P Q f [] h = tt
every P Q f (x ∷ xs) h = (f x h.0, every P Q f xs h.1)

pub each_both : {A : Type 0} (P : A → Type 0) (xs ys : List A) → AllByRecursion P xs → AllByRecursion P ys → AllByRecursion P (xs ++ ys)
each_both P [] ys h k = k
each_both P (x ∷ xs) ys h k = (h.0, each_both P xs ys h.1 k)

pub each_taken : {A : Type 0} (P : A → Type 0) (n : ℕ) (xs : List A) → AllByRecursion P xs → AllByRecursion P (take n xs)
each_taken P zero xs h = tt
each_taken P (suc n) [] h = tt
each_taken P (suc n) (x ∷ xs) h = (h.0, each_taken P n xs h.1)

pub each_dropped : {A : Type 0} (P : A → Type 0) (n : ℕ) (xs : List A) → AllByRecursion P xs → AllByRecursion P (drop n xs)
each_dropped P zero xs h = h
each_dropped P (suc n) [] h = tt
each_dropped P (suc n) (x ∷ xs) h = each_dropped P n xs h.1

pub each_filtered : {A : Type 0} (P : A → Type 0) (t : A → Bool) (xs : List A) → AllByRecursion P xs → AllByRecursion P (filter t xs)
each_filtered P t [] h = tt
each_filtered P t (x ∷ xs) h = by (t x) (each_filtered P t xs h.1)
  where
    by : (b : Bool) → AllByRecursion P (filter t xs) → AllByRecursion P (if b then x ∷ filter t xs else filter t xs)
    by true k = (h.0, k)
    by false k = k

pub each_mapped : {A B : Type 0} (P : A → Type 0) (Q : B → Type 0) (f : A → B) → ((x : A) → P x → Q (f x)) → (xs : List A) → AllByRecursion P xs → AllByRecursion Q (map f xs)
each_mapped P Q f k [] h = tt
each_mapped P Q f k (x ∷ xs) h = (k x h.0, each_mapped P Q f k xs h.1)

pub each_made : {A B : Type 0} (Q : B → Type 0) (f : A → B) → ((x : A) → Q (f x)) → (xs : List A) → AllByRecursion Q (map f xs)
each_made Q f k [] = tt
each_made Q f k (x ∷ xs) = (k x, each_made Q f k xs)

pub each_piece : {A B : Type 0} (P : A → Type 0) (Q : B → Type 0) (f : A → List B) → ((x : A) → P x → AllByRecursion Q (f x)) → (xs : List A) → AllByRecursion P xs → AllByRecursion Q (flat_map f xs)
each_piece P Q f k [] h = tt
each_piece P Q f k (x ∷ xs) h = each_both Q (f x) (flat_map f xs) (k x h.0) (each_piece P Q f k xs h.1)

pub each_first : {A B : Type 0} (P : A → Type 0) (xs : List A) (ys : List B) → AllByRecursion P xs → AllByRecursion (λ p. P p.0) (zip xs ys)
each_first P [] ys h = tt
each_first P (x ∷ xs) [] h = tt
each_first P (x ∷ xs) (y ∷ ys) h = (h.0, each_first P xs ys h.1)

-- numbers from one on
pub each_in_range : (P : ℕ → Type 0) (a n : ℕ) → ((i : ℕ) → a ≤ i → i < a + n → P i) → AllByRecursion P (range_with_len a n)
each_in_range P a zero h = tt
each_in_range P a (suc n) h = (h a (omega arith) (omega arith), each_in_range P (a + 1) n (λ i l m. h i (omega (arith, l)) (omega (arith, m))))

-- ## By places

pub at_end : {A : Type 0} (P : ℕ → A → Type 0) (xs : List A) (x d : A) → ((n : ℕ) → P n (slice_index_or xs n d)) → P (length xs) x
    → (n : ℕ) → P n (slice_index_or (xs ++ x ∷ []) n d)
at_end P [] x d h q zero = q
at_end P [] x d h q (suc n) = h (suc n)
at_end P (y ∷ ys) x d h q zero = h zero
at_end P (y ∷ ys) x d h q (suc n) = at_end (λ m. P (suc m)) ys x d (λ m. h (suc m)) q n

pub at_set : {A : Type 0} (P : ℕ → A → Type 0) (xs : List A) (i : ℕ) (x d : A) → ((n : ℕ) → P n (slice_index_or xs n d)) → P i x
    → (n : ℕ) → P n (slice_index_or (slice_set xs i x) n d)
at_set P [] i x d h q n = h n
at_set P (y ∷ ys) zero x d h q zero = q
at_set P (y ∷ ys) zero x d h q (suc n) = h (suc n)
at_set P (y ∷ ys) (suc i) x d h q zero = h zero
at_set P (y ∷ ys) (suc i) x d h q (suc n) = at_set (λ m. P (suc m)) ys i x d (λ m. h (suc m)) q n

-- more of the default
pub at_room : {A : Type 0} (P : A → Type 0) (xs : List A) (k : ℕ) (d : A) → ((n : ℕ) → P (slice_index_or xs n d)) → P d
    → (n : ℕ) → P (slice_index_or (xs ++ replicate k d) n d)
at_room P [] zero d h q n = q
at_room P [] (suc k) d h q zero = q
at_room P [] (suc k) d h q (suc n) = at_room P [] k d h q n
at_room P (x ∷ xs) k d h q zero = h zero
at_room P (x ∷ xs) k d h q (suc n) = at_room P xs k d (λ m. h (suc m)) q n

-- what is added behind is not seen before the end
pub at_old : {A : Type 0} (xs : List A) (x d : A) (n : ℕ) → n < length xs → slice_index_or (xs ++ x ∷ []) n d ≡ slice_index_or xs n d
at_old [] x d n l = absurd (nothing_below n l)
  where
    nothing_below : (n : ℕ) → n < 0 → ⊥
    nothing_below n l = omega arith
at_old (y ∷ ys) x d zero l = refl
at_old (y ∷ ys) x d (suc n) l = at_old ys x d n (one_less n (length ys) l)
  where
    one_less : (m n : ℕ) → suc m < suc n → m < n
    one_less m n l = omega arith

-- behind the end stands the default
pub past_end : {A : Type 0} (xs : List A) (d : A) (n : ℕ) → length xs ≤ n → slice_index_or xs n d ≡ d
past_end [] d n l = refl
past_end (x ∷ xs) d zero l = absurd (none_below (length xs) l)
  where
    none_below : (m : ℕ) → suc m ≤ 0 → ⊥
    none_below m l = omega arith
past_end (x ∷ xs) d (suc n) l = past_end xs d n (one_less (length xs) n l)
  where
    one_less : (a b : ℕ) → suc a ≤ suc b → a ≤ b
    one_less a b l = omega arith
