-- Rising numbers.
use Rattle.std.proofs.Common.{◌≡◌, ℕ, zero, suc, ◌<◌, ◌≤◌, ◌+◌, List, [], ◌∷◌, Bool, true, false, refl, ap, sym, ◌∙◌, eqb, not, cond, length, arith, eqb-true, ◌||◌, ◌&&◌, get_or, eq-eqb, ne_eqb, subst, leb, ◌≢◌, ⊎_elim, Result, Ok, Err}
use Rattle.std.specs.Prelude.{insert, remove, MatchResult}
use Rattle.std.specs.List.Sorted.{IsBinarySearchResult}
use Rattle.std.specs.Ordering.{nat_cmp}
use Rattle.std.proofs.lemmas.List.Sorted.{searched}
use Rattle.std.specs.List.{filter, range_with_len}
use Rattle.std.proofs.lemmas.Bool.{and_parts, and_from, leb-true, le-leb, eqb-false, or_cases, cases_lt}
use Rattle.page_nodes.specs.Entries.{listed, minus}
use Rattle.page_nodes.specs.Ids.{rises}
use Rattle.page_nodes.proofs.Lists.{cases, minus_none, or_none, or_right, listed_place}

parts : (a m : ℕ) (ms : List ℕ) → rises a (m ∷ ms) ≡ true → (a ≤ m) × (rises (m + 1) ms ≡ true)
parts a m ms h = let p = and_parts (leb a m) (rises (m + 1) ms) h in (leb-true a m (p.0), p.1)

whole : (a m : ℕ) (ms : List ℕ) → a ≤ m → rises (m + 1) ms ≡ true → rises a (m ∷ ms) ≡ true
whole a m ms le h = and_from (leb a m) (rises (m + 1) ms) (le-leb a m le) h

pub rises_lower : (a b : ℕ) (xs : List ℕ) → b ≤ a → rises a xs ≡ true → rises b xs ≡ true
rises_lower a b [] le h = refl
rises_lower a b (m ∷ ms) le h = let p = parts a m ms h in whole b m ms (omega (arith, le, p.0)) (p.1)

-- each is as high as the start
high : (a : ℕ) (xs : List ℕ) (i : ℕ) → rises a xs ≡ true → i < length xs → a ≤ get_or xs i 0
high a [] i h lt = absurd (omega (arith, lt))
high a (m ∷ ms) zero h lt = (parts a m ms h).0
high a (m ∷ ms) (suc i) h lt = let p = parts a m ms h in omega (arith, p.0, high (m + 1) ms i (p.1) (omega (arith, lt)))

pub rises_order : (a : ℕ) (xs : List ℕ) → rises a xs ≡ true → (i j : ℕ) → i ≤ j → j < length xs → get_or xs i 0 ≤ get_or xs j 0
rises_order a [] h i j le lt = absurd (omega (arith, lt))
rises_order a (m ∷ ms) h zero zero le lt = omega arith
rises_order a (m ∷ ms) h zero (suc j) le lt = omega (arith, high (m + 1) ms j ((parts a m ms h).1) (omega (arith, lt)))
rises_order a (m ∷ ms) h (suc i) zero le lt = absurd (omega (arith, le))
rises_order a (m ∷ ms) h (suc i) (suc j) le lt = rises_order (m + 1) ms ((parts a m ms h).1) i j (omega (arith, le)) (omega (arith, lt))

-- a number is not in what begins above it
pub not_below : (a x : ℕ) (xs : List ℕ) → rises a xs ≡ true → x < a → listed x xs ≡ false
not_below a x [] h lt = refl
not_below a x (m ∷ ms) h lt = let p = parts a m ms h in ap (λ b. b || listed x ms) (ne_eqb m x (λ e. omega (arith, e, p.0, lt))) ∙ not_below (m + 1) x ms (p.1) (omega (arith, p.0, lt))

-- a number is put in
pub rises_insert : (a x : ℕ) (xs : List ℕ) (i : ℕ) → a ≤ x → rises a xs ≡ true → i ≤ length xs → ((k : ℕ) → k < i → get_or xs k 0 < x) → ((k : ℕ) → i ≤ k → k < length xs → x < get_or xs k 0) → rises a (insert xs i x) ≡ true
rises_insert a x [] zero le h bound low up = whole a x [] le refl
rises_insert a x [] (suc i) le h bound low up = absurd (omega (arith, bound))
rises_insert a x (m ∷ ms) zero le h bound low up =
    let p = parts a m ms h in
    let lt : x < m = up 0 (omega arith) (omega arith) in
    whole a x (m ∷ ms) le (whole (x + 1) m ms (omega (arith, lt)) (p.1))
rises_insert a x (m ∷ ms) (suc i) le h bound low up =
    let p = parts a m ms h in
    let lt : m < x = low 0 (omega arith) in
    whole a m (insert ms i x) (p.0) (rises_insert (m + 1) x ms i (omega (arith, lt)) (p.1) (omega (arith, bound)) (λ k l. low (suc k) (omega (arith, l))) (λ k g l. up (suc k) (omega (arith, g)) (omega (arith, l))))

or_turned : (a b : Bool) → (a || b) ≡ (b || a)
or_turned true true = refl
or_turned true false = refl
or_turned false true = refl
or_turned false false = refl

or_grouped : (a b d : Bool) → (a || (b || d)) ≡ ((a || b) || d)
or_grouped true b d = refl
or_grouped false b d = refl

pub listed_insert : (y x : ℕ) (xs : List ℕ) (i : ℕ) → i ≤ length xs → listed y (insert xs i x) ≡ (listed y xs || eqb x y)
listed_insert y x [] zero le = or_turned (eqb x y) false
listed_insert y x [] (suc i) le = absurd (omega (arith, le))
listed_insert y x (m ∷ ms) zero le = or_turned (eqb x y) (eqb m y || listed y ms)
listed_insert y x (m ∷ ms) (suc i) le = ap (λ b. eqb m y || b) (listed_insert y x ms i (omega (arith, le))) ∙ or_grouped (eqb m y) (listed y ms) (eqb x y)

-- a number is taken out
pub rises_minus : (a n : ℕ) (xs : List ℕ) → rises a xs ≡ true → rises a (minus n xs) ≡ true
rises_minus a n [] h = refl
rises_minus a n (m ∷ ms) h =
    let p = parts a m ms h in
    let rest = rises_minus (m + 1) n ms (p.1) in
    cases (λ b. rises a (cond (not b) (m ∷ minus n ms) (minus n ms)) ≡ true) (eqb m n) (λ _. rises_lower (m + 1) a (minus n ms) (omega (arith, p.0)) rest) (λ _. whole a m (minus n ms) (p.0) rest)

pub remove_minus : (a n : ℕ) (xs : List ℕ) (i : ℕ) → rises a xs ≡ true → i < length xs → get_or xs i 0 ≡ n → remove xs i ≡ minus n xs
remove_minus a n [] i h lt e = absurd (omega (arith, lt))
remove_minus a n (m ∷ ms) zero h lt e =
    let p = parts a m ms h in
    sym (ap (λ b. cond (not b) (m ∷ minus n ms) (minus n ms)) (eq-eqb m n e) ∙ minus_none n ms (not_below (m + 1) n ms (p.1) (omega (arith, e))))
remove_minus a n (m ∷ ms) (suc i) h lt e =
    let p = parts a m ms h in
    let le = high (m + 1) ms i (p.1) (omega (arith, lt)) in
    ap (λ l. m ∷ l) (remove_minus (m + 1) n ms i (p.1) (omega (arith, lt)) e) ∙ sym (ap (λ b. cond (not b) (m ∷ minus n ms) (minus n ms)) (ne_eqb m n (λ s. omega (arith, le, e, s))))

pub listed_less : (y n : ℕ) (xs : List ℕ) → listed y (minus n xs) ≡ (listed y xs && not (eqb n y))
listed_less y n [] = refl
listed_less y n (x ∷ xs) =
    cases (λ b. listed y (cond (not b) (x ∷ minus n xs) (minus n xs)) ≡ ((eqb x y || listed y xs) && not (eqb n y))) (eqb x n)
    (λ e. listed_less y n xs ∙ gone (eqb n y) (listed y xs) ∙ ap (λ z. (eqb z y || listed y xs) && not (eqb n y)) (sym (eqb-true x n e)))
    (λ e. ap (λ b. eqb x y || b) (listed_less y n xs) ∙ cases (λ b. (b || (listed y xs && not (eqb n y))) ≡ ((b || listed y xs) && not (eqb n y))) (eqb x y) (λ s. sym (ap not (ne_eqb n y (λ d. eqb-false x n e (eqb-true x y s ∙ sym d))))) (λ _. refl))
  where
    gone : (b l : Bool) → (l && not b) ≡ ((b || l) && not b)
    gone true true = refl
    gone true false = refl
    gone false true = refl
    gone false false = refl

-- rising numbers are those that pass a test which tells them
pub rising_filter : (p : ℕ → Bool) (n a : ℕ) (xs : List ℕ) → rises a xs ≡ true → ((x : ℕ) → a ≤ x → listed x xs ≡ p x) → ((x : ℕ) → a + n ≤ x → p x ≡ false) → xs ≡ filter p (range_with_len a n)
rising_filter p zero a [] h l out = refl
rising_filter p zero a (m ∷ ms) h l out =
    let q = parts a m ms h in
    absurd (true_false (sym (ap (λ b. b || listed m ms) (eq-eqb m m refl)) ∙ l m (q.0) ∙ out m (omega (arith, q.0))))
  where
    true_false : true ≡ false → ⊥
    true_false e = cc
rising_filter p (suc n) a [] h l out =
    rising_filter p n (a + 1) [] refl (λ x le. l x (omega (arith, le))) (λ x le. out x (omega (arith, le)))
    ∙ ap (λ b. cond b (a ∷ filter p (range_with_len (a + 1) n)) (filter p (range_with_len (a + 1) n))) (l a (omega arith))
rising_filter p (suc n) a (m ∷ ms) h l out =
    let q = parts a m ms h in
    cases (λ b. m ∷ ms ≡ cond b (a ∷ filter p (range_with_len (a + 1) n)) (filter p (range_with_len (a + 1) n))) (p a)
    (λ e.
    let same : m ≡ a = first e in
    let rest = rising_filter p n (a + 1) ms (subst (λ y. rises (y + 1) ms ≡ true) same (q.1)) (λ x le. sym (ap (λ b. b || listed x ms) (ne_eqb m x (λ d. omega (arith, d, le, same)))) ∙ l x (omega (arith, le))) (λ x le. out x (omega (arith, le))) in
    ap (λ y. y ∷ ms) same ∙ ap (λ y. a ∷ y) rest)
    (λ e. rising_filter p n (a + 1) (m ∷ ms) (whole (a + 1) m ms (above e) (q.1)) (λ x le. l x (omega (arith, le))) (λ x le. out x (omega (arith, le))))
  where
    true_false : true ≡ false → ⊥
    true_false e = cc

    later : listed a ms ≡ false
    later = let q = parts a m ms h in not_below (m + 1) a ms (q.1) (omega (arith, q.0))

    first : p a ≡ true → m ≡ a
    first e = ⊎_elim (λ t. eqb-true m a t) (λ t. absurd (true_false (sym t ∙ later))) (or_cases (eqb m a) (listed a ms) (l a (omega arith) ∙ e))

    above : p a ≡ false → a + 1 ≤ m
    above e =
        let q = parts a m ms h in
        let ne : m ≢ a = eqb-false m a ((or_none (eqb m a) (listed a ms) (l a (omega arith) ∙ e)).0) in
        omega (arith, q.0, ne)

-- a number that stands at a place is listed
place_listed : (x : ℕ) (xs : List ℕ) (i : ℕ) → i < length xs → get_or xs i 0 ≡ x → listed x xs ≡ true
place_listed x [] i lt e = absurd (omega (arith, lt))
place_listed x (m ∷ ms) zero lt e = ap (λ b. b || listed x ms) (eq-eqb m x e)
place_listed x (m ∷ ms) (suc i) lt e = or_right (eqb m x) (listed x ms) (place_listed x ms i (omega (arith, lt)) e)

-- what a search found
abbrev Found : List ℕ → ℕ → Result ℕ ℕ → Type 0
Found xs x r = MatchResult r (λ i. (i < length xs) × (get_or xs i 0 ≡ x)) (λ i. (i ≤ length xs) × ((k : ℕ) → k < i → get_or xs k 0 < x) × ((k : ℕ) → i ≤ k → k < length xs → x < get_or xs k 0))

found : (xs ys : List ℕ) (x : ℕ) (r s : Result ℕ ℕ) → ys ≡ xs → rises 0 xs ≡ true → IsBinarySearchResult (λ y. nat_cmp y x) ys r → r ≡ s → Found xs x s
found xs ys x r s l h p e = subst (Found xs x) e (searched xs x r (subst (λ zs. IsBinarySearchResult (λ y. nat_cmp y x) zs r) l p) (rises_order 0 xs h))

pub put_new : (xs ys new : List ℕ) (x i : ℕ) (r : Result ℕ ℕ) → ys ≡ xs → rises 0 xs ≡ true → IsBinarySearchResult (λ y. nat_cmp y x) ys r → r ≡ Err i → new ≡ insert xs i x → (rises 0 new ≡ true) × ((y : ℕ) → listed y new ≡ (listed y xs || eqb x y))
put_new xs ys new x i r l h p e n =
    let f = found xs ys x r (Err i) l h p e in
    (ap (rises 0) n ∙ rises_insert 0 x xs i (omega arith) h (f.0) (f.1) (f.2), λ y. ap (listed y) n ∙ listed_insert y x xs i (f.0))

pub put_old : (xs ys : List ℕ) (x i : ℕ) (r : Result ℕ ℕ) → ys ≡ xs → rises 0 xs ≡ true → IsBinarySearchResult (λ y. nat_cmp y x) ys r → r ≡ Ok i → (y : ℕ) → listed y xs ≡ (listed y xs || eqb x y)
put_old xs ys x i r l h p e y =
    let f = found xs ys x r (Ok i) l h p e in
    cases (λ b. listed y xs ≡ (listed y xs || b)) (eqb x y)
    (λ s. let t : listed y xs ≡ true = ap (λ z. listed z xs) (sym (eqb-true x y s)) ∙ place_listed x xs i (f.0) (f.1) in t ∙ sym (or_right (listed y xs) true refl))
    (λ _. or_turned false (listed y xs))

pub take_old : (xs ys new : List ℕ) (x i : ℕ) (r : Result ℕ ℕ) → ys ≡ xs → rises 0 xs ≡ true → IsBinarySearchResult (λ y. nat_cmp y x) ys r → r ≡ Ok i → new ≡ remove xs i → (rises 0 new ≡ true) × ((y : ℕ) → listed y new ≡ (listed y xs && not (eqb x y)))
take_old xs ys new x i r l h p e n =
    let f = found xs ys x r (Ok i) l h p e in
    let is : new ≡ minus x xs = n ∙ remove_minus 0 x xs i h (f.0) (f.1) in
    (ap (rises 0) is ∙ rises_minus 0 x xs h, λ y. ap (listed y) is ∙ listed_less y x xs)

pub take_none : (xs ys : List ℕ) (x i : ℕ) (r : Result ℕ ℕ) → ys ≡ xs → rises 0 xs ≡ true → IsBinarySearchResult (λ y. nat_cmp y x) ys r → r ≡ Err i → (y : ℕ) → listed y xs ≡ (listed y xs && not (eqb x y))
take_none xs ys x i r l h p e y =
    cases (λ b. listed y xs ≡ (listed y xs && not b)) (eqb x y)
    (λ s. ap (λ z. listed z xs) (sym (eqb-true x y s)) ∙ absent ∙ sym (none (listed y xs)))
    (λ _. all (listed y xs))
  where
    none : (b : Bool) → (b && false) ≡ false
    none true = refl
    none false = refl

    all : (b : Bool) → b ≡ (b && true)
    all true = refl
    all false = refl

    nowhere : listed x xs ≡ true → ⊥
    nowhere t =
        let f = found xs ys x r (Err i) l h p e in
        let q = listed_place x xs t in
        ⊎_elim (λ (lt : q.0 < i). omega (arith, f.1 (q.0) lt, q.2)) (λ (le : i ≤ q.0). omega (arith, f.2 (q.0) le (q.1), q.2)) (cases_lt (q.0) i)

    absent : listed x xs ≡ false
    absent = cases (λ b. listed x xs ≡ b → listed x xs ≡ false) (listed x xs) (λ t _. absurd (nowhere t)) (λ _ u. u) refl
