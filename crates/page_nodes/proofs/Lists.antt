-- Lists of numbers and of nodes.
use Rattle.std.proofs.Common.{◌≡◌, ℕ, zero, suc, ◌<◌, ◌≤◌, ◌+◌, List, [], ◌∷◌, ◌++◌, Bool, true, false, refl, ap, sym, ◌∙◌, eqb, not, cond, length, arith, eqb-true, ◌||◌, set, get_or, take, eq-eqb, ne_eqb, subst, Result, Ok, Err, Option, Some, None, inl, inr, ◌⊎◌, ⊎_elim}
use Rattle.std.proofs.lemmas.List.{map-set, get_or-set_same, get_or-set_other, set-get_or, map-append}
use Rattle.std.specs.Prelude.{OnOk, IfOk, MatchResult, insert, is_some}
use Rattle.tree_ops.specs.Trees.{is_number}
pub use Rattle.tree_ops.proofs.Tests.{cases, or_none, or_right}
use Rattle.std.proofs.lemmas.Bool.{eqb-false, and_parts, and_from, cases_lt, or_cases}
use Rattle.page_nodes.specs.declared.rows.Row.{Row}
use Rattle.page_nodes.specs.Room.{room_in, room_at}
use Rattle.page_nodes.specs.Entries.{minus, before, listed, distinct, Entry, entry_of, entries, at, no_entry}

-- what is left
pub listed_minus : (n c : ℕ) (xs : List ℕ) → listed c (minus n xs) ≡ true → (listed c xs ≡ true) × (c ≡ n → ⊥)
listed_minus n c [] h = cc
listed_minus n c (x ∷ xs) h0 =
    cases (λ b. listed c (cond (not b) (x ∷ minus n xs) (minus n xs)) ≡ true → ((eqb x c || listed c xs) ≡ true) × (c ≡ n → ⊥)) (eqb x n)
    (λ e h. let p = listed_minus n c xs h in (or_right (eqb x c) (listed c xs) (p.0), p.1))
    (λ e. cases (λ b. (b || listed c (minus n xs)) ≡ true → ((b || listed c xs) ≡ true) × (c ≡ n → ⊥)) (eqb x c)
    (λ e2 h. (refl, λ same. eqb-false x n e (eqb-true x c e2 ∙ same)))
    (λ e2 h. listed_minus n c xs h))
    h0

pub minus_listed : (n c : ℕ) (xs : List ℕ) → listed c xs ≡ true → (c ≡ n → ⊥) → listed c (minus n xs) ≡ true
minus_listed n c [] h ne = h
minus_listed n c (x ∷ xs) h ne =
    cases (λ b. (b || listed c xs) ≡ true → listed c (cond (not (eqb x n)) (x ∷ minus n xs) (minus n xs)) ≡ true) (eqb x c)
    (λ e h. cases (λ b. (eqb x n ≡ b) → listed c (cond (not b) (x ∷ minus n xs) (minus n xs)) ≡ true) (eqb x n) (λ e2 _. absurd (ne (sym (eqb-true x c e) ∙ eqb-true x n e2))) (λ _ _. ap (λ b. b || listed c (minus n xs)) e) refl)
    (λ e h. cases (λ b. listed c (cond (not b) (x ∷ minus n xs) (minus n xs)) ≡ true) (eqb x n) (λ _. minus_listed n c xs h ne) (λ _. ap (λ b. b || listed c (minus n xs)) e ∙ minus_listed n c xs h ne))
    h

pub minus_none : (n : ℕ) (xs : List ℕ) → listed n xs ≡ false → minus n xs ≡ xs
minus_none n [] h = refl
minus_none n (x ∷ xs) h0 = cases (λ b. (b || listed n xs) ≡ false → cond (not b) (x ∷ minus n xs) (minus n xs) ≡ x ∷ xs) (eqb x n) (λ e h. cc) (λ e h. ap (λ l. x ∷ l) (minus_none n xs h)) h0

-- where a number is put in
pub listed_before : (c n : ℕ) (s : Option ℕ) (xs : List ℕ) → listed c (before s n xs) ≡ (listed c xs || eqb n c)
listed_before c n s [] = cases (λ b. (b || false) ≡ b) (eqb n c) (λ _. refl) (λ _. refl)
listed_before c n s (x ∷ xs) =
    cases (λ b. listed c (cond b (n ∷ x ∷ xs) (x ∷ before s n xs)) ≡ ((eqb x c || listed c xs) || eqb n c)) (is_number x s)
    (λ _. or_turned (eqb n c) (eqb x c || listed c xs))
    (λ _. ap (λ b. eqb x c || b) (listed_before c n s xs) ∙ or_grouped (eqb x c) (listed c xs) (eqb n c))
  where
    or_turned : (a b : Bool) → (a || b) ≡ (b || a)
    or_turned true true = refl
    or_turned true false = refl
    or_turned false true = refl
    or_turned false false = refl

    or_grouped : (a b d : Bool) → (a || (b || d)) ≡ ((a || b) || d)
    or_grouped true b d = refl
    or_grouped false b d = refl

pub place_found : (s : Option ℕ) (xs : List ℕ) (i : ℕ) → i ≤ length xs → ((j : ℕ) → j < i → is_number (get_or xs j 0) s ≡ false) → ((length xs ≤ i) ⊎ (is_number (get_or xs i 0) s ≡ true)) → (n : ℕ) → before s n xs ≡ insert xs i n
place_found s [] zero le none e n = refl
place_found s [] (suc i) le none e n = absurd (omega (arith, le))
place_found s (x ∷ xs) zero le none e n = ⊎_elim (λ h. absurd (omega (arith, h))) (λ h. ap (λ b. cond b (n ∷ x ∷ xs) (x ∷ before s n xs)) h) e
place_found s (x ∷ xs) (suc i) le none e n =
    ap (λ b. cond b (n ∷ x ∷ xs) (x ∷ before s n xs)) (none 0 (omega arith))
    ∙ ap (λ l. x ∷ l) (place_found s xs i (omega (arith, le)) (λ j lt. none (suc j) (omega (arith, lt))) (⊎_elim (λ h. inl (omega (arith, h))) (λ h. inr h) e) n)

-- no number is none
pub no_number : (s : Option ℕ) → is_some s ≡ false → (m : ℕ) → is_number m s ≡ false
no_number None h m = refl
no_number (Some n) h m = cc

pub place_end : (xs : List ℕ) (s : Option ℕ) → is_some s ≡ false → (n : ℕ) → before s n xs ≡ insert xs (length xs) n
place_end xs s h n = place_found s xs (length xs) (omega arith) (λ j lt. no_number s h (get_or xs j 0)) (inl (omega arith)) n

-- no number twice
pub distinct_minus : (n : ℕ) (xs : List ℕ) → distinct xs ≡ true → distinct (minus n xs) ≡ true
distinct_minus n [] h = refl
distinct_minus n (x ∷ xs) h =
    let p = and_parts (not (listed x xs)) (distinct xs) h in
    let rest = distinct_minus n xs (p.1) in
    cases (λ b. distinct (cond (not b) (x ∷ minus n xs) (minus n xs)) ≡ true) (eqb x n) (λ _. rest)
    (λ _. and_from (not (listed x (minus n xs))) (distinct (minus n xs))
    (cases (λ b. listed x (minus n xs) ≡ b → not b ≡ true) (listed x (minus n xs)) (λ e _. absurd (not_true (listed x xs) (p.0) ((listed_minus n x xs e).0))) (λ _ _. refl) refl)
    rest)
  where
    not_true : (b : Bool) → not b ≡ true → b ≡ true → ⊥
    not_true true h e = cc
    not_true false h e = cc

pub distinct_before : (s : Option ℕ) (n : ℕ) (xs : List ℕ) → listed n xs ≡ false → distinct xs ≡ true → distinct (before s n xs) ≡ true
distinct_before s n [] l h = refl
distinct_before s n (x ∷ xs) l h =
    let p = and_parts (not (listed x xs)) (distinct xs) h in
    let q = or_none (eqb x n) (listed n xs) l in
    cases (λ b. distinct (cond b (n ∷ x ∷ xs) (x ∷ before s n xs)) ≡ true) (is_number x s)
    (λ _. and_from (not (listed n (x ∷ xs))) (distinct (x ∷ xs)) (ap not l) h)
    (λ _. and_from (not (listed x (before s n xs))) (distinct (before s n xs))
    (ap not (listed_before x n s xs ∙ ap (λ b. listed x xs || b) (ne_eqb n x (λ e. eqb-false x n (q.0) (sym e)))) ∙ kept (listed x xs) (p.0))
    (distinct_before s n xs (q.1) (p.1)))
  where
    kept : (b : Bool) → not b ≡ true → not (b || false) ≡ true
    kept true h = cc
    kept false h = refl

-- one node written
pub entries_set : (rows : List Row) (i : ℕ) (r : Row) (x : Entry) → entry_of r ≡ x → entries (set rows i r) ≡ set (entries rows) i x
entries_set rows i r x e = map-set entry_of rows i r ∙ ap (set (entries rows) i) e

pub entry_read : (rows : List Row) (i : ℕ) (r : Row) → i < length rows → r ≡ get_or rows i r → entry_of r ≡ at (entries rows) i
entry_read [] i r lt e = absurd (omega arith)
entry_read (x ∷ rows) zero r lt e = ap entry_of e
entry_read (x ∷ rows) (suc i) r lt e = entry_read rows i r (omega arith) e

pub at_set : (k : List Entry) (i j : ℕ) (x : Entry) → i < length k → at (set k i x) j ≡ cond (eqb j i) x (at k j)
at_set k i j x lt = cases (λ b. (eqb j i ≡ b) → at (set k i x) j ≡ cond b x (at k j)) (eqb j i) (λ e _. ap (at (set k i x)) (eqb-true j i e) ∙ get_or-set_same k i x no_entry lt) (λ e _. get_or-set_other k i j x no_entry (eqb-false j i e)) refl

pub entries_long : (rows : List Row) → length (entries rows) ≡ length rows
entries_long [] = refl
entries_long (r ∷ rows) = ap suc (entries_long rows)

pub room_set : (rows : List Row) (i t : ℕ) (r : Row) → i < length rows → room_at (set rows i r) t ≡ cond (eqb t i) (room_in r.children) (room_at rows t)
room_set [] i t r lt = absurd (omega arith)
room_set (x ∷ rows) zero zero r lt = refl
room_set (x ∷ rows) zero (suc t) r lt = ap (λ b. cond b (room_in r.children) (room_at rows t)) (sym (ne_eqb (suc t) zero (λ e. omega arith)))
room_set (x ∷ rows) (suc i) zero r lt = ap (λ b. cond b (room_in r.children) (room_in x.children)) (sym (ne_eqb zero (suc i) (λ e. omega arith)))
room_set (x ∷ rows) (suc i) (suc t) r lt = room_set rows i t r (omega arith) ∙ ap (λ b. cond b (room_in r.children) (room_at rows t)) (suc_same t i)
  where
    suc_same : (a b : ℕ) → eqb a b ≡ eqb (suc a) (suc b)
    suc_same a b = cases (λ c. c ≡ eqb (suc a) (suc b)) (eqb a b) (λ e. sym (eq-eqb (suc a) (suc b) (ap suc (eqb-true a b e)))) (λ e. sym (ne_eqb (suc a) (suc b) (λ h. eqb-false a b e (omega arith))))

pub room_read : (rows : List Row) (i : ℕ) (r : Row) → i < length rows → r ≡ get_or rows i r → room_in r.children ≡ room_at rows i
room_read [] i r lt e = absurd (omega arith)
room_read (x ∷ rows) zero r lt e = ap (λ (y : Row). room_in y.children) e
room_read (x ∷ rows) (suc i) r lt e = room_read rows i r (omega arith) e

-- the room of a node whose children are lifted out
pub room_lifted : (rows : List Row) (i t : ℕ) (r old : Row) → i < length rows → old ≡ get_or rows i old → cond (eqb t i) (room_in old.children) (room_at (set rows i r) t) ≡ room_at rows t
room_lifted rows i t r old lt e =
    ap (λ y. cond (eqb t i) (room_in old.children) y) (room_set rows i t r lt)
    ∙ cases (λ b. cond b (room_in old.children) (cond b (room_in r.children) (room_at rows t)) ≡ room_at rows t) (eqb t i)
    (λ h. room_read rows i old lt e ∙ ap (room_at rows) (sym (eqb-true t i h)))
    (λ _. refl)

-- one node written, by how much its room falls at most
pub room_written : (rows : List Row) (i less : ℕ) (r old : Row) → i < length rows → old ≡ get_or rows i old → room_in old.children ≤ room_in r.children + less → (t : ℕ) → room_at rows t ≤ room_at (set rows i r) t + less
room_written rows i less r old lt e h t = subst (λ y. room_at rows t ≤ y + less) (sym (room_set rows i t r lt))
    (cases (λ b. room_at rows t ≤ cond b (room_in r.children) (room_at rows t) + less) (eqb t i)
    (λ s. subst (λ y. room_at rows y ≤ room_in r.children + less) (sym (eqb-true t i s)) (omega (arith, room_read rows i old lt e)))
    (λ _. omega arith))

pub ok_more : {T E : Type 0} (r : Result T E) (P Q : Type 0) → OnOk r P → (P → Q) → OnOk r Q
ok_more (Ok x) P Q h f = f h
ok_more (Err e) P Q h f = tt

pub entries_same : (rows : List Row) (i : ℕ) (r : Row) → entry_of r ≡ at (entries rows) i → entries (set rows i r) ≡ entries rows
entries_same rows i r e = entries_set rows i r _ e ∙ set-get_or (entries rows) i no_entry

pub entries_push : (rows : List Row) (r : Row) (x : Entry) → entry_of r ≡ x → entries (rows ++ r ∷ []) ≡ entries rows ++ x ∷ []
entries_push rows r x e = map-append entry_of rows (r ∷ []) ∙ ap (λ y. entries rows ++ y ∷ []) e

pub at_push : (k : List Entry) (x : Entry) (j : ℕ) → at (k ++ x ∷ []) j ≡ cond (eqb j (length k)) x (at k j)
at_push [] x zero = refl
at_push [] x (suc j) = ap (λ b. cond b x no_entry) (sym (ne_eqb (suc j) zero (λ e. omega arith)))
at_push (y ∷ k) x zero = ap (λ b. cond b x y) (sym (ne_eqb zero (suc (length k)) (λ e. omega arith)))
at_push (y ∷ k) x (suc j) = at_push k x j ∙ ap (λ b. cond b x (at k j)) (suc_same_too j (length k))
  where
    suc_same_too : (a b : ℕ) → eqb a b ≡ eqb (suc a) (suc b)
    suc_same_too a b = cases (λ c. c ≡ eqb (suc a) (suc b)) (eqb a b) (λ e. sym (eq-eqb (suc a) (suc b) (ap suc (eqb-true a b e)))) (λ e. sym (ne_eqb (suc a) (suc b) (λ h. eqb-false a b e (omega arith))))

-- what holds below a number, and at it
pub one_more_below : (P : ℕ → Type 0) (n : ℕ) → ((i : ℕ) → i < n → P i) → P n → (i : ℕ) → i < n + 1 → P i
one_more_below P n h p i lt = ⊎_elim (λ l. h i l) (λ le. let e : n ≡ i = omega (arith, lt, le) in subst P e p) (cases_lt i n)

-- a number that is listed has a place
pub listed_place : (n : ℕ) (xs : List ℕ) → listed n xs ≡ true → (i : ℕ) × (i < length xs) × (get_or xs i 0 ≡ n)
listed_place n [] h = cc
listed_place n (x ∷ xs) h = ⊎_elim (λ e. (0, omega arith, eqb-true x n e)) (λ l. let p = listed_place n xs l in (suc (p.0), omega (arith, p.1), p.2)) (or_cases (eqb x n) (listed n xs) h)

-- the two outcomes of a call
pub match_more : {E : Type 0} (r : Result (Unit {0}) E) (P Q P2 Q2 : Type 0) → (P → P2) → (Q → Q2) → MatchResult r (λ _. P) (λ _. Q) → MatchResult r (λ _. P2) (λ _. Q2)
match_more (Ok x) P Q P2 Q2 f g h = f h
match_more (Err e) P Q P2 Q2 f g h = g h

pub match_either : {E : Type 0} (r : Result (Unit {0}) E) (P Q S : Type 0) → (P → S) → (Q → S) → MatchResult r (λ _. P) (λ _. Q) → S
match_either (Ok x) P Q S f g h = f h
match_either (Err e) P Q S f g h = g h

pub ok_equal : {T E B : Type 0} (r : Result T E) (f : T → B) (x y : B) → x ≡ y → IfOk r (λ t. f t ≡ x) → IfOk r (λ t. f t ≡ y)
ok_equal (Ok t) f x y e h = h ∙ e
ok_equal (Err t) f x y e h = tt

pub entries_take : (n : ℕ) (rows : List Row) → entries (take n rows) ≡ take n (entries rows)
entries_take zero rows = refl
entries_take (suc n) [] = refl
entries_take (suc n) (r ∷ rows) = ap (λ l. entry_of r ∷ l) (entries_take n rows)
